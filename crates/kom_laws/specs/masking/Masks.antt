-- The stored rows without what hangs on some numbers, whoever these are hidden from.
use Rattle.std.specs.Prelude.{ℕ, Bool, ◌&&◌, not, [], map, filter, if◌then◌else◌}
use Rattle.kom_types.specs.declared.aux_items.ItemRow.{ItemRow}
use Rattle.kom_types.specs.declared.conferences.ConferenceRow.{ConferenceRow}
use Rattle.kom_types.specs.declared.memberships.MembershipRow.{MembershipRow}
use Rattle.kom_types.specs.declared.persons.PersonRow.{PersonRow}
use Rattle.kom_types.specs.declared.texts.Recipient.{Recipient}
use Rattle.kom_types.specs.declared.texts.TextLink.{TextLink}
use Rattle.kom_types.specs.declared.texts.TextRow.{TextRow}
use Rattle.read_ranges.specs.Reads.{ReadRow}
use Rattle.kom_model.specs.Db.{Db}

-- conferences, texts and persons, by their numbers, of which the hidden parts go
pub record Mask : Type 0 where
  pub conference : ℕ → Bool
  pub text : ℕ → Bool
  pub person : ℕ → Bool

-- of a conference: what is written in it, and when, and how many texts and aux-items it had
abbrev pub blank_conference : ConferenceRow → ConferenceRow
blank_conference row =
    record row { presentation = 0; motd = 0; last_written = 0; next_local = 1; next_item = 1 }

-- of a text: its body, and how many aux-items it had
abbrev pub blank_text : TextRow → TextRow
blank_text row = record row { body = []; lines = 0; next_item = 1 }

-- of a person: how much it read
abbrev pub blank_person : PersonRow → PersonRow
blank_person row = record row { read_texts = 0; text_fetches = 0 }

-- of a membership: when its record of what was read was set, and what was read
abbrev pub blank_membership : MembershipRow → MembershipRow
blank_membership row = record row { last_time_read = 0 }

abbrev pub blank_read : ReadRow → ReadRow
blank_read row = record row { ranges = [] }

-- the hidden parts go of what has a masked number, or is in a masked conference
abbrev pub masked_conference : Mask → ConferenceRow → ConferenceRow
masked_conference mask row = if mask.conference row.number then blank_conference row else row

abbrev pub masked_text : Mask → TextRow → TextRow
masked_text mask row = if mask.text row.number then blank_text row else row

abbrev pub masked_person : Mask → PersonRow → PersonRow
masked_person mask row = if mask.person row.number then blank_person row else row

abbrev pub masked_membership : Mask → MembershipRow → MembershipRow
masked_membership mask row =
    if mask.conference row.conference then blank_membership row else row

abbrev pub masked_read : Mask → ReadRow → ReadRow
masked_read mask row = if mask.conference row.conference then blank_read row else row

-- a recipient stays unless both its text and its conference are masked
abbrev pub stays_recipient : Mask → Recipient → Bool
stays_recipient mask row = not (mask.text row.text && mask.conference row.conference)

-- a link stays unless both its texts are
abbrev pub stays_link : Mask → TextLink → Bool
stays_link mask row = not (mask.text row.child && mask.text row.parent)

-- an aux-item stays unless its text, or its conference, is
abbrev pub stays_item : Mask → ItemRow → Bool
stays_item mask row =
    if row.on_text then not (mask.text row.object) else not (mask.conference row.object)

-- The stored rows without what a mask hides.
abbrev pub masked_db : Mask → Db → Db
masked_db mask db = record db {
  conferences = map (masked_conference mask) db.conferences;
  persons = map (masked_person mask) db.persons;
  memberships = map (masked_membership mask) db.memberships;
  reads = map (masked_read mask) db.reads;
  texts = map (masked_text mask) db.texts;
  recipients = filter (stays_recipient mask) db.recipients;
  links = filter (stays_link mask) db.links;
  items = filter (stays_item mask) db.items;
}
