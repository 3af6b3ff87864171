use Rattle.std.proofs.Common.{◌≡◌, ◌++◌, drop}
use Rattle.kom_reader.specs.Links.{parts_of, parts_behind}
use Rattle.kom_reader.proofs.recipients.parts_of.Given as goal

-- with those of the links to come, the parts are all
abbrev pub invariant-loop-link : goal.invariant-loop-link
invariant-loop-link l =
    l.parts.items ++ parts_behind l.group (drop l.link-index l.links) ≡ parts_of l.links
