-- Two quiet worlds that were worked out by hand, over the rows of `Worlds`. Bo writes to Cy, in the
-- one world yes and in the other no; Di asks for Cy's letterbox and for the text, and is drained.
-- Then Bo makes Di a recipient.
use Rattle.std.specs.Prelude.{◌≡◌, ℕ, false, List, [], ◌∷◌, codes, Option, Some, option_map}
use Rattle.kom_types.specs.declared.acts.Act.TheVariants as act
use Rattle.kom_types.specs.declared.acts.Entry.{Entry}
use Rattle.kom_types.specs.declared.acts.Record.{Record}
use Rattle.kom_types.specs.declared.calls.Call.{Call}
use Rattle.kom_types.specs.declared.calls.Call.TheVariants as call
use Rattle.kom_types.specs.declared.items.Item.{Item}
use Rattle.kom_types.specs.declared.items.Item.TheVariants as item
use Rattle.kom_types.specs.declared.replies.Reply.{Reply}
use Rattle.kom_types.specs.declared.replies.Reply.TheVariants as reply
use Rattle.kom_types.specs.declared.texts.NewText.{NewText}
use Rattle.kom_model.specs.After.{after, decision_at}
use Rattle.kom_model.specs.Db.{text_of}
use Rattle.kom_model.specs.Legal.{state_after}
use Rattle.kom_model.specs.Out.{out_of, given_along}
use Rattle.kom_model.specs.State.{State}
use Rattle.noninterference.specs.Hiding.{entries_of}
use Rattle.noninterference.specs.Worlds.{before, di, act_entry, to_cy, di_drains}
use Rattle.noninterference.specs.respect.Hidden.{AreAlike}
use Rattle.noninterference.specs.respect.Quiet.{AreQuietly, AreQuiet}

-- the record of an entry, by a session
abbrev pub by : ℕ → Entry → Record
by session entry = record { entry = entry; session = session; short = false }

-- a call of a session, with its reference
abbrev pub asks : ℕ → ℕ → Call → Record
asks session reference asked = by session (act_entry (act.Call session reference asked))

-- what Bo writes to Cy: this, with an aux-item
abbrev pub to_cy_with : List ℕ → List ℕ → NewText
to_cy_with body content = record (to_cy body) {
  aux_items = record { tag = 3; flags = 0; inherit_limit = 1; content = content } ∷ [];
}

abbrev pub yes : NewText
yes = to_cy_with (codes "yes!") (codes "p")

abbrev pub no : NewText
no = to_cy_with (codes "no!!") (codes "q")

-- the records of a world, and the states after them
abbrev pub mail : NewText → Record
mail given = asks 1 1 (call.CreateText given)

abbrev pub letterbox : Record
letterbox = asks 3 2 (call.GetUconfStat 8)

abbrev pub stat : Record
stat = asks 3 3 (call.GetTextStat 1)

abbrev pub flush : Record
flush = by 0 (act_entry act.Flush)

abbrev pub drain : Record
drain = by 3 di_drains

abbrev pub world : NewText → List Record
world given = mail given ∷ letterbox ∷ stat ∷ flush ∷ drain ∷ []

-- the letterbox has a text; there is no text 1
abbrev pub told_to_di : List Item
told_to_di = item.Reply 2 (reply.UConference (record {
  name = codes "Cy";
  kind = 152;
  highest_local = 1;
  nice = 77;
})) ∷ item.Reply 3 (reply.Refused 14 1) ∷ []

abbrev pub after_world : NewText → State
after_world given = state_after before (world given)

-- what text 1 says then
abbrev pub says : NewText → Option (List ℕ)
says given = option_map (λ row. row.body) (text_of (after_world given).db 1)

-- Di is made a recipient, and then asks what the text says
abbrev pub sent_on : Record
sent_on = asks 1 2 (call.AddRecipient 1 9 0)

abbrev pub told_then : NewText → Reply
told_then given =
    (decision_at (after (after_world given) sent_on) 20 3 4 (call.GetText 1 0 9)).reply

-- The worlds are alike and quiet, and Di is sent the same in both, though the text says another
-- thing. When it is sent on to her they are quiet no more, and she is told what it says.
pub record MailRows : Type 0 where
  pub alike : AreAlike di (entries_of (world yes)) (entries_of (world no))
  pub quiet : AreQuiet di before (world yes) before (world no)
  pub sent : out_of before 3 (world yes) ≡ told_to_di
  pub sent_in_the_other_world : out_of before 3 (world no) ≡ told_to_di
  pub drained : given_along before 3 (world yes) ≡ told_to_di ∷ []
  pub drained_in_the_other_world : given_along before 3 (world no) ≡ told_to_di ∷ []
  pub said : says yes ≡ Some (codes "yes!")
  pub said_in_the_other_world : says no ≡ Some (codes "no!!")
  pub opened : AreQuietly di (after_world yes) (after_world no) sent_on sent_on → ⊥
  pub told : told_then yes ≡ reply.Text (codes "yes!")
  pub told_in_the_other_world : told_then no ≡ reply.Text (codes "no!!")
