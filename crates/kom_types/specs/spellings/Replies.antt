-- How replies are spelled. (Protocol A, "Server Replies".)
use Rattle.std.specs.Prelude.{ℕ, [], ◌∷◌, ◌++◌}
use Rattle.std.specs.Fmt.{decimal}
use Rattle.kom_types.specs.declared.replies.Reply.{Reply}
use Rattle.kom_types.specs.declared.replies.Reply.TheVariants as reply
use Rattle.kom_types.specs.spellings.Words.{Words, number, text, time, array}
use Rattle.kom_types.specs.spellings.Conferences.{conference, uconference, conference_names}
use Rattle.kom_types.specs.spellings.Memberships.{member, membership}
use Rattle.kom_types.specs.spellings.Persons.{person}
use Rattle.kom_types.specs.spellings.Server.{version_info, info}
use Rattle.kom_types.specs.spellings.Sessions.{dynamic_session, static_session}
use Rattle.kom_types.specs.spellings.Texts.{mark, mapping, text_stat}

-- the result of a good reply; a refusal has none
abbrev pub result_words : Reply → Words
result_words reply.Done = []
result_words (reply.Refused code status) = []
result_words (reply.Number value) = number value
result_words (reply.Time moment) = time moment
result_words (reply.Text bytes) = text bytes
result_words (reply.Numbers values) = array number values
result_words (reply.Marks marks) = array mark marks
result_words (reply.TextStat stat) = text_stat stat
result_words (reply.Mapping of) = mapping of
result_words (reply.Conference of) = conference of
result_words (reply.UConference of) = uconference of
result_words (reply.ConferenceNames names) = conference_names names
result_words (reply.Person of) = person of
result_words (reply.Membership of) = membership of
result_words (reply.Memberships all) = array membership all
result_words (reply.Members all) = array member all
result_words (reply.DynamicSessions all) = array dynamic_session all
result_words (reply.StaticSession of) = static_session of
result_words (reply.VersionInfo of) = version_info of
result_words (reply.Info of) = info of

-- `=` and the reference, which are one word, and the result
abbrev pub good_words : ℕ → Words → Words
good_words reference result = (61 ∷ decimal reference) ∷ result

-- `%` and the reference, which are one word, and the error's code and its status
abbrev pub refusal_words : ℕ → ℕ → ℕ → Words
refusal_words reference code status = (37 ∷ decimal reference) ∷ number code ++ number status

-- a good reply, or a refusal
abbrev pub words_of_reply : ℕ → Reply → Words
words_of_reply reference (reply.Refused code status) = refusal_words reference code status
words_of_reply reference other = good_words reference (result_words other)
