-- The items that a desk in memory makes, and the lists of them that its drains gave.
use Rattle.std.specs.Prelude.{ℕ, ◌==◌, List, map, filter}
use Rattle.kom_types.specs.declared.replies.Reply.TheVariants as reply
use Rattle.kom_types.specs.declared.items.Item.{Item}
use Rattle.kom_types.specs.declared.items.Item.TheVariants as item
use Rattle.memory_links.specs.declared.planned_items.PlannedItem.{PlannedItem}
use Rattle.memory_links.specs.declared.planned_items.PlannedItem.TheVariants as planned
use Rattle.memory_links.specs.declared.planned_items.Drained.{Drained}

-- the item that a planned one makes
abbrev pub item_of : PlannedItem → Item
item_of planned.Hello = item.Hello
item_of (planned.Reply reference session) = item.Reply reference (reply.Number session)
item_of planned.Fault = item.Fault

-- the lists of items that the drains of a session gave, in order
abbrev pub given_in : List Drained → ℕ → List (List Item)
given_in drains session =
    map (λ drained. map item_of drained.items.items)
    (filter (λ drained. drained.session == session) drains)
