-- How records are read from the left.
use Rattle.std.specs.Prelude.{ℕ, ◌==◌, Bool, true, false, ◌&&◌, nat_lt, List, [], ◌∷◌, drop}
use Rattle.kom_types.specs.declared.aux_items.AuxRow.{AuxRow}
use Rattle.kom_types.specs.declared.conferences.Conference.{Conference}
use Rattle.kom_types.specs.declared.conferences.ConferenceName.{ConferenceName}
use Rattle.kom_types.specs.declared.conferences.UConference.{UConference}
use Rattle.kom_types.specs.declared.memberships.Member.{Member}
use Rattle.kom_types.specs.declared.memberships.Membership.{Membership}
use Rattle.kom_types.specs.declared.memberships.RangesShown.{RangesShown}
use Rattle.kom_types.specs.declared.memberships.RangesShown.TheVariants as shown
use Rattle.kom_types.specs.declared.memberships.ReadRange.{ReadRange}
use Rattle.kom_types.specs.declared.persons.Person.{Person}
use Rattle.kom_types.specs.declared.sessions.DynamicSession.{DynamicSession}
use Rattle.kom_types.specs.declared.texts.Block.{Block}
use Rattle.kom_types.specs.declared.texts.Block.TheVariants as pairs
use Rattle.kom_types.specs.declared.texts.LocalText.{LocalText}
use Rattle.kom_types.specs.declared.texts.Mapping.{Mapping}
use Rattle.kom_types.specs.declared.texts.Mark.{Mark}
use Rattle.kom_types.specs.declared.texts.MiscInfo.{MiscInfo}
use Rattle.kom_types.specs.declared.texts.TextStat.{TextStat}
use Rattle.kom_types.specs.Token.{Token, Digits, Text, Open, Close, Star, Signed}
use Rattle.kom_types.specs.calls.Arguments.{Taken, Took, Departs, Malformed, then, bits}
use Rattle.kom_records.specs.Rules.{number, byte, flag, text, first_bits, array, array_of}
use Rattle.kom_records.specs.Rules.{map_taken}
use Rattle.kom_records.specs.Links.{misc_by}
use Rattle.kom_records.specs.Times.{time}

abbrev pub aux_item : List Token → Taken AuxRow
aux_item tokens =
    then (number tokens) (λ which t.
    then (number t) (λ tag t.
    then (number t) (λ creator t.
    then (time t) (λ at t.
    then (bits 8 t) (λ flags t.
    then (number t) (λ limit t.
    then (text t) (λ content. Took (record {
      number = which;
      tag = tag;
      creator = creator;
      at = at;
      flags = flags;
      limit = limit;
      content = content;
    }))))))))

abbrev pub mark : List Token → Taken Mark
mark tokens =
    then (number tokens) (λ which t.
    then (byte t) (λ kind. Took (record { text = which; kind = kind })))

abbrev pub local_text : List Token → Taken LocalText
local_text tokens =
    then (number tokens) (λ local t.
    then (number t) (λ which. Took (record { local = local; text = which })))

abbrev pub read_range : List Token → Taken ReadRange
read_range tokens =
    then (number tokens) (λ first t.
    then (number t) (λ last. Took (record { first = first; last = last })))

abbrev pub misc_info : List Token → Taken MiscInfo
misc_info tokens = then (number tokens) misc_by

abbrev pub text_stat : List Token → Taken TextStat
text_stat tokens =
    then (time tokens) (λ created t.
    then (number t) (λ author t.
    then (number t) (λ lines t.
    then (number t) (λ chars t.
    then (number t) (λ marks t.
    then (array misc_info t) (λ misc_infos t.
    then (array aux_item t) (λ aux_items. Took (record {
      created = created;
      author = author;
      lines = lines;
      chars = chars;
      marks = marks;
      misc_infos = misc_infos;
      aux_items = aux_items;
    }))))))))

-- a block is sparse, 0, or dense, 1
abbrev pub dense : List Token → Taken Block
dense tokens =
    then (number tokens) (λ first t.
    then (array number t) (λ texts. Took (pairs.Dense first texts)))

abbrev pub block_by : ℕ → List Token → Taken Block
block_by which t =
    elim (which == 0) [
      | true ↦ map_taken pairs.Sparse (array local_text t)
      | false ↦
          elim (which == 1) [ true ↦ dense t | false ↦ Departs Malformed ]
    ]

abbrev pub block : List Token → Taken Block
block tokens = then (number tokens) block_by

abbrev pub mapping : List Token → Taken Mapping
mapping tokens =
    then (number tokens) (λ begin t.
    then (number t) (λ end t.
    then (flag t) (λ later t.
    then (block t) (λ found. Took (record {
      begin = begin;
      end = end;
      later_texts_exist = later;
      block = found;
    })))))

abbrev pub conference : List Token → Taken Conference
conference tokens =
    then (text tokens) (λ name t.
    then (bits 8 t) (λ kind t.
    then (time t) (λ created t.
    then (time t) (λ last_written t.
    then (number t) (λ creator t.
    then (number t) (λ presentation t.
    then (number t) (λ supervisor t.
    then (number t) (λ submitters t.
    then (number t) (λ super_conference t.
    then (number t) (λ motd t.
    then (number t) (λ nice t.
    then (number t) (λ keep_commented t.
    then (number t) (λ members t.
    then (number t) (λ first_local t.
    then (number t) (λ texts t.
    then (number t) (λ expire t.
    then (array aux_item t) (λ aux_items. Took (record {
      name = name;
      kind = kind;
      created = created;
      last_written = last_written;
      creator = creator;
      presentation = presentation;
      supervisor = supervisor;
      submitters = submitters;
      super_conference = super_conference;
      motd = motd;
      nice = nice;
      keep_commented = keep_commented;
      members = members;
      first_local = first_local;
      texts = texts;
      expire = expire;
      aux_items = aux_items;
    }))))))))))))))))))

abbrev pub uconference : List Token → Taken UConference
uconference tokens =
    then (text tokens) (λ name t.
    then (bits 8 t) (λ kind t.
    then (number t) (λ highest_local t.
    then (number t) (λ nice. Took (record {
      name = name;
      kind = kind;
      highest_local = highest_local;
      nice = nice;
    })))))

abbrev pub conference_name : List Token → Taken ConferenceName
conference_name tokens =
    then (text tokens) (λ name t.
    then (first_bits t) (λ kind t.
    then (number t) (λ which. Took (record { name = name; kind = kind; number = which }))))

abbrev pub person : List Token → Taken Person
person tokens =
    then (text tokens) (λ user t.
    then (bits 16 t) (λ privileges t.
    then (bits 8 t) (λ flags t.
    then (time t) (λ last_login t.
    then (number t) (λ user_area t.
    then (number t) (λ time_present t.
    then (number t) (λ sessions t.
    then (number t) (λ created_lines t.
    then (number t) (λ created_bytes t.
    then (number t) (λ read_texts t.
    then (number t) (λ text_fetches t.
    then (number t) (λ created_persons t.
    then (number t) (λ created_conferences t.
    then (number t) (λ first_created_local t.
    then (number t) (λ created_texts t.
    then (number t) (λ marks t.
    then (number t) (λ conferences. Took (record {
      user = user;
      privileges = privileges;
      flags = flags;
      last_login = last_login;
      user_area = user_area;
      time_present = time_present;
      sessions = sessions;
      created_lines = created_lines;
      created_bytes = created_bytes;
      read_texts = read_texts;
      text_fetches = text_fetches;
      created_persons = created_persons;
      created_conferences = created_conferences;
      first_created_local = first_created_local;
      created_texts = created_texts;
      marks = marks;
      conferences = conferences;
    }))))))))))))))))))

-- whether a star is next
abbrev pub is_star_next : List Token → Bool
is_star_next [] = false
is_star_next (Digits digits ∷ tail) = false
is_star_next (Text bytes ∷ tail) = false
is_star_next (Open ∷ tail) = false
is_star_next (Close ∷ tail) = false
is_star_next (Star ∷ tail) = true
is_star_next (Signed sign digits ∷ tail) = false

-- the ranges of a membership; where there are some, a star stands for them if only their number is
-- told
abbrev pub ranges_by : ℕ → List Token → Taken RangesShown
ranges_by count t = elim (nat_lt 0 count && is_star_next t) [
  | true ↦ Took (shown.Count count) (drop 1 t)
  | false ↦ map_taken shown.All (array_of read_range count t)
]

abbrev pub ranges : List Token → Taken RangesShown
ranges tokens = then (number tokens) ranges_by

abbrev pub membership : List Token → Taken Membership
membership tokens =
    then (number tokens) (λ position t.
    then (time t) (λ last_time_read t.
    then (number t) (λ conference t.
    then (byte t) (λ priority t.
    then (ranges t) (λ these t.
    then (number t) (λ added_by t.
    then (time t) (λ added_at t.
    then (bits 8 t) (λ kind. Took (record {
      position = position;
      last_time_read = last_time_read;
      conference = conference;
      priority = priority;
      ranges = these;
      added_by = added_by;
      added_at = added_at;
      kind = kind;
    })))))))))

abbrev pub member : List Token → Taken Member
member tokens =
    then (number tokens) (λ person t.
    then (number t) (λ added_by t.
    then (time t) (λ added_at t.
    then (bits 8 t) (λ kind. Took (record {
      person = person;
      added_by = added_by;
      added_at = added_at;
      kind = kind;
    })))))

abbrev pub dynamic_session : List Token → Taken DynamicSession
dynamic_session tokens =
    then (number tokens) (λ session t.
    then (number t) (λ person t.
    then (number t) (λ working t.
    then (number t) (λ idle t.
    then (bits 8 t) (λ flags t.
    then (text t) (λ doing. Took (record {
      session = session;
      person = person;
      working = working;
      idle = idle;
      flags = flags;
      doing = doing;
    })))))))
