-- What a text's links tell: its comments and footnotes, and its recipients.
use Rattle.std.proofs.Common.{◌≡◌, ℕ, ◌==◌, Bool, true, false, cond, List, [], ◌∷◌, ◌++◌, Option, Some, None, refl}
use Rattle.std.proofs.Common.{sym, ap}
use Rattle.std.proofs.Common.{◌∙◌, ◌||◌, append-nil, length, ne_eqb, arith}
use Rattle.std.specs.Prelude.{map, flat_map, filter_map, not, is_some}
use Rattle.std.specs.List.{list_any, cons_option}
use Rattle.std.proofs.lemmas.List.{map-append}
use Rattle.std.proofs.lemmas.List.Elements.{filter_map-append}
use Rattle.kom_types.specs.declared.texts.MiscInfo.TheVariants as misc
use Rattle.kom_types.specs.declared.texts.Recipient.{Recipient}
use Rattle.kom_types.specs.declared.texts.TextLink.{TextLink}
use Rattle.kom_model.specs.Db.{Db, recipients_of, links_from, links_into}
use Rattle.kom_model.specs.Shown.{recipient_info, recipient_infos, sent_infos, from_infos, into_info}
use Rattle.kom_sweep.specs.Due.{child_in, recipient_in}
use Rattle.sweep_laws.specs.Due.{comments_to}
use Rattle.sweep_laws.specs.Told.{infos_of}

-- ---- of each group
flat-none : {X Y Z : Type 0} (take : Y → Option Z) (f : X → List Y) → ((x : X) → filter_map take (f x) ≡ []) →
    (xs : List X) → filter_map take (flat_map f xs) ≡ []
flat-none take f none [] = refl
flat-none take f none (x ∷ xs) =
    filter_map-append take (f x) (flat_map f xs) ∙ rw (none x) (flat-none take f none xs)

flat-one : {X Y Z : Type 0} (take : Y → Option Z) (f : X → List Y) (one : X → Z) →
    ((x : X) → filter_map take (f x) ≡ one x ∷ []) → (xs : List X) → filter_map take (flat_map f xs) ≡ map one xs
flat-one take f one takes [] = refl
flat-one take f one takes (x ∷ xs) =
    filter_map-append take (f x) (flat_map f xs)
    ∙ rw (takes x) (ap (λ rest. one x ∷ rest) (flat-one take f one takes xs))

map-none : {X Y Z : Type 0} (take : Y → Option Z) (f : X → Y) → ((x : X) → take (f x) ≡ None) → (xs : List X) →
    filter_map take (map f xs) ≡ []
map-none take f none [] = refl
map-none take f none (x ∷ xs) = rw (none x) (map-none take f none xs)

map-one : {X Y Z : Type 0} (take : Y → Option Z) (f : X → Y) (one : X → Z) → ((x : X) → take (f x) ≡ Some (one x)) →
    (xs : List X) → filter_map take (map f xs) ≡ map one xs
map-one take f one takes [] = refl
map-one take f one takes (x ∷ xs) = rw (takes x) (ap (λ rest. one x ∷ rest) (map-one take f one takes xs))

five : {Y Z : Type 0} (take : Y → Option Z) (a b c d e : List Y) → filter_map take (a ++ b ++ c ++ d ++ e)
    ≡ filter_map take a ++ filter_map take b ++ filter_map take c ++ filter_map take d ++ filter_map take e
five take a b c d e =
    filter_map-append take (a ++ b ++ c ++ d) e
    ∙ ap (λ kept. kept ++ filter_map take e) (filter_map-append take (a ++ b ++ c) d
    ∙ ap (λ kept. kept ++ filter_map take d) (filter_map-append take (a ++ b) c
    ∙ ap (λ kept. kept ++ filter_map take c) (filter_map-append take a b)))

-- ---- of one link
sent-child : (sender at : ℕ) → filter_map child_in (sent_infos sender at) ≡ []
sent-child sender at = by (sender == 0) where
  by : (none : Bool) → filter_map child_in (cond none [] (misc.SentBy sender ∷ misc.SentAt at ∷ [])) ≡ []
  by true = refl
  by false = refl

sent-recipient : (sender at : ℕ) → filter_map recipient_in (sent_infos sender at) ≡ []
sent-recipient sender at = by (sender == 0) where
  by : (none : Bool) → filter_map recipient_in (cond none [] (misc.SentBy sender ∷ misc.SentAt at ∷ [])) ≡ []
  by true = refl
  by false = refl

-- what is told of a recipient is a recipient, and no child
info-child : (tag conference : ℕ) → child_in (recipient_info tag conference) ≡ None
info-child tag conference = by (tag == 15) (tag == 1) where
  by : (blind copy : Bool) → child_in (cond blind (misc.BlindRecipient conference)
      (cond copy (misc.CopyRecipient conference) (misc.Recipient conference))) ≡ None
  by true copy = refl
  by false true = refl
  by false false = refl

info-recipient : (tag conference : ℕ) → recipient_in (recipient_info tag conference) ≡ Some conference
info-recipient tag conference = by (tag == 15) (tag == 1) where
  by : (blind copy : Bool) → recipient_in (cond blind (misc.BlindRecipient conference)
      (cond copy (misc.CopyRecipient conference) (misc.Recipient conference))) ≡ Some conference
  by true copy = refl
  by false true = refl
  by false false = refl

recipient-children : (row : Recipient) → filter_map child_in (recipient_infos row) ≡ []
recipient-children row = rw (info-child row.tag row.conference) (sent-child row.sender row.at)

recipient-itself : (row : Recipient) → filter_map recipient_in (recipient_infos row) ≡ row.conference ∷ []
recipient-itself row = rw (info-recipient row.tag row.conference)
    (ap (λ rest. row.conference ∷ rest) (sent-recipient row.sender row.at))

from-children : (row : TextLink) → filter_map child_in (from_infos row) ≡ []
from-children row = by row.footnote where
  by : (footnote : Bool) → filter_map child_in (cond footnote (misc.FootnoteTo row.parent) (misc.CommentTo row.parent)
      ∷ sent_infos row.sender row.at) ≡ []
  by true = sent-child row.sender row.at
  by false = sent-child row.sender row.at

from-recipients : (row : TextLink) → filter_map recipient_in (from_infos row) ≡ []
from-recipients row = by row.footnote where
  by : (footnote : Bool) → filter_map recipient_in (cond footnote (misc.FootnoteTo row.parent)
      (misc.CommentTo row.parent) ∷ sent_infos row.sender row.at) ≡ []
  by true = sent-recipient row.sender row.at
  by false = sent-recipient row.sender row.at

into-child : (row : TextLink) → child_in (into_info row) ≡ Some row.child
into-child row = by row.footnote where
  by : (footnote : Bool) → child_in (cond footnote (misc.FootnoteIn row.child) (misc.CommentIn row.child))
      ≡ Some row.child
  by true = refl
  by false = refl

into-recipient : (row : TextLink) → recipient_in (into_info row) ≡ None
into-recipient row = by row.footnote where
  by : (footnote : Bool) → recipient_in (cond footnote (misc.FootnoteIn row.child) (misc.CommentIn row.child)) ≡ None
  by true = refl
  by false = refl

-- ---- of a text
pub children-told : (db : Db) (text : ℕ) → filter_map child_in (infos_of db text) ≡ comments_to db text
children-told db text =
    five child_in (flat_map recipient_infos (recipients_of db text)) (flat_map from_infos (links_from db text false))
    (map into_info (links_into db text false)) (flat_map from_infos (links_from db text true))
    (map into_info (links_into db text true))
    ∙ rw (
      flat-none child_in recipient_infos recipient-children (recipients_of db text),
      flat-none child_in from_infos from-children (links_from db text false),
      flat-none child_in from_infos from-children (links_from db text true),
      map-one child_in into_info (λ row. row.child) into-child (links_into db text false),
      map-one child_in into_info (λ row. row.child) into-child (links_into db text true),
    ) (ap (λ kept. kept ++ map (λ (row : TextLink). row.child) (links_into db text true))
    (append-nil (map (λ (row : TextLink). row.child) (links_into db text false)))
    ∙ sym (map-append (λ (row : TextLink). row.child) (links_into db text false) (links_into db text true)))

pub recipients-told : (db : Db) (text : ℕ) →
    filter_map recipient_in (infos_of db text) ≡ map (λ row. row.conference) (recipients_of db text)
recipients-told db text =
    five recipient_in (flat_map recipient_infos (recipients_of db text))
    (flat_map from_infos (links_from db text false)) (map into_info (links_into db text false))
    (flat_map from_infos (links_from db text true)) (map into_info (links_into db text true))
    ∙ rw (
      flat-one recipient_in recipient_infos (λ row. row.conference) recipient-itself (recipients_of db text),
      flat-none recipient_in from_infos from-recipients (links_from db text false),
      flat-none recipient_in from_infos from-recipients (links_from db text true),
      map-none recipient_in into_info into-recipient (links_into db text false),
      map-none recipient_in into_info into-recipient (links_into db text true),
    ) (nils (map (λ (row : Recipient). row.conference) (recipients_of db text))) where
      nils : (kept : List ℕ) → kept ++ [] ++ [] ++ [] ++ [] ≡ kept
      nils kept = rw (append-nil kept) (rw (append-nil kept) (rw (append-nil kept) (append-nil kept)))

-- some of them are recipients, unless there is none
pub any-kept : {X Y : Type 0} (take : X → Option Y) (xs : List X) →
    list_any (λ x. is_some (take x)) xs ≡ not (length (filter_map take xs) == 0)
any-kept take [] = refl
any-kept {X} {Y} take (x ∷ xs) = by (take x) (any-kept take xs) where
  by : (taken : Option Y) → list_any (λ x. is_some (take x)) xs ≡ not (length (filter_map take xs) == 0) →
      (is_some taken || list_any (λ x. is_some (take x)) xs)
      ≡ not (length (cons_option taken (filter_map take xs)) == 0)
  by None rest = rest
  by (Some y) rest = ap not (sym (ne_eqb (length (y ∷ filter_map take xs)) 0 (λ none. omega arith)))
