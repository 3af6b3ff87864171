-- What it says of the rows that an effect fits.
use Rattle.std.proofs.Common.{◌≡◌, ℕ, ◌≤◌, ◌&&◌, true, false, List, length, Option, Some, None, is_some, refl}
use Rattle.std.proofs.Common.{sym, true≢false}
use Rattle.std.specs.Prelude.{is_none}
use Rattle.std.proofs.lemmas.Bool.{and_parts, leb-true, eqb-true}
use Rattle.kom_types.specs.declared.limits.TheConstants.{LAST_DRAWN, LONGEST_BODY}
use Rattle.row_table.specs.Tables.{row_of}
use Rattle.kom_types.specs.declared.effects.Effect.TheVariants as effect
use Rattle.kom_types.specs.declared.texts.TextLink.{TextLink}
use Rattle.kom_types.specs.declared.texts.Recipient.{Recipient}
use Rattle.kom_types.specs.declared.texts.TextRow.{TextRow}
use Rattle.kom_types.specs.tables.AuxItems as Items
use Rattle.kom_types.specs.tables.Memberships as Memberships
use Rattle.kom_types.specs.tables.Persons.{number_of_person}
use Rattle.kom_types.specs.tables.Texts as Texts
use Rattle.kom_types.specs.tables.Texts.{number_of_text}
use Rattle.kom_model.specs.Db.{Db, conference_of, person_of, text_of, recipient_of, link_of, next_local_of}
use Rattle.kom_model.specs.Db.{next_created_of}
use Rattle.kom_model.specs.Effects.{fits, may_number}
use Rattle.kom_state.proofs.Drawn.{next_local, next_created}

none_from : {X : Type 0} (o : Option X) → is_none o ≡ true → o ≡ None
none_from None none = refl
none_from (Some x) none = absurd (true≢false (sym none))

pub record TextFits (db : Db) (number : ℕ) (body : List ℕ) : Type 0 where
  pub last : number ≤ LAST_DRAWN
  pub absent : row_of number_of_text number db.texts ≡ None
  pub size : length body ≤ LONGEST_BODY

pub text-fits : (db : Db) (number author at : ℕ) (body : List ℕ) →
    fits (effect.TextAdded number author at body) db ≡ true → TextFits db number body
unfolding fits text_of
text-fits db number author at body fits' =
    let sized = and_parts _ _ fits' in let numbered = and_parts _ _ sized.0 in
    let least = and_parts _ _ numbered.0 in record {
      last = leb-true _ _ least.1;
      absent = none_from _ numbered.1;
      size = leb-true _ _ sized.1;
    }

pub record RecipientFits (db : Db) (given : Recipient) : Type 0 where
  pub absent : Texts.recipient_of given.text given.conference db.recipients ≡ None
  pub from : next_local given.conference db.conferences ≤ given.local
  pub last : given.local ≤ LAST_DRAWN

pub recipient-fits : (db : Db) (given : Recipient) → fits (effect.RecipientAdded given) db ≡ true →
    RecipientFits db given
unfolding fits conference_of recipient_of next_local_of
recipient-fits db given fits' =
    let draws = and_parts _ _ (and_parts _ _ fits').0 in let tagged = and_parts _ _ draws.0 in
    let missing = and_parts _ _ tagged.0 in let drawn = and_parts _ _ draws.1 in record {
      absent = none_from _ missing.1;
      from = leb-true _ _ drawn.0;
      last = leb-true _ _ drawn.1;
    }

pub link-fits : (db : Db) (given : TextLink) → fits (effect.LinkAdded given) db ≡ true →
    Texts.link_of given.child given.parent given.footnote db.links ≡ None
unfolding fits link_of
link-fits db given fits' = none_from _ (and_parts _ _ (and_parts _ _ (and_parts _ _ fits').0).0).1

pub record CreatedFits (db : Db) (person local text : ℕ) : Type 0 where
  pub row : TextRow
  pub found : row_of number_of_text text db.texts ≡ Some row
  pub author : row.author ≡ person
  pub unnumbered : row.created_local ≡ 0
  pub from : next_created person db.persons ≤ local
  pub last : local ≤ LAST_DRAWN

pub created-fits : (db : Db) (person local text : ℕ) → fits (effect.Created person local text) db ≡ true →
    CreatedFits db person local text
unfolding fits text_of person_of next_created_of
created-fits db person local text fits' = by (row_of number_of_text text db.texts) refl fits'
  where
    by : (row : Option TextRow) → row_of number_of_text text db.texts ≡ row →
        elim row [
          | None ↦ false
          | Some row ↦ is_some (row_of number_of_person person db.persons) && may_number db person local row
        ] ≡ true → CreatedFits db person local text
    by None found fits'' = absurd (true≢false (sym fits''))
    by (Some row) found fits'' =
        let parts = and_parts _ _ fits'' in let last = and_parts _ _ parts.1 in let from = and_parts _ _ last.0 in
        let mine = and_parts _ _ from.0 in record {
          row = row;
          found = found;
          author = eqb-true _ _ mine.0;
          unnumbered = eqb-true _ _ mine.1;
          from = leb-true _ _ from.1;
          last = leb-true _ _ last.1;
        }
