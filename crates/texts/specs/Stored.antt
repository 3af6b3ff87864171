-- What is kept of texts, as contracts see it.
use Rattle.std.specs.Prelude.{ℕ, List}
use Rattle.kom_types.specs.declared.texts.TextLink.{TextLink}
use Rattle.kom_types.specs.declared.texts.MarkRow.{MarkRow}
use Rattle.kom_types.specs.declared.texts.Recipient.{Recipient}
use Rattle.kom_types.specs.declared.texts.TextRow.{TextRow}
use Rattle.local_maps.specs.Maps.{Owned}
use Rattle.marks.specs.Marked.{Marked}
use Rattle.misc_links.specs.Linked.{Linked}
use Rattle.misc_links.specs.Received.{Received}

-- Texts by rising number; recipients, links and marks in the order of adding.
pub record TextRows : Type 0 where
  pub texts : List TextRow
  pub recipients : List Recipient
  pub links : List TextLink
  pub marks : List MarkRow

-- How many more rows fit without memory: into the tables, and into the lists that each of them
-- keeps.
pub record Room : Type 0 where
  pub texts : ℕ
  pub recipients : Received
  pub links : Linked
  pub marks : Marked
  pub locals : Owned
  pub created : Owned

pub record Stored : Type 0 where
  pub rows : TextRows
  pub room : Room
