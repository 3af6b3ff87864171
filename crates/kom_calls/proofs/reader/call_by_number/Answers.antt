use Rattle.std.proofs.Common.{List, [], ◌++◌, Ok, Err, Some}
use Rattle.std.proofs.lemmas.Result.{err_from_is_err_and}
use Rattle.kom_types.specs.Reading.{patterns}
use Rattle.kom_types.specs.calls.Pattern.{Pattern}
use Rattle.kom_types.specs.calls.Sessions as Sessions
use Rattle.kom_types.specs.calls.Server as Server
use Rattle.kom_types.specs.calls.Persons as Persons
use Rattle.kom_types.specs.calls.Conferences as Conferences
use Rattle.kom_types.specs.calls.Texts as Texts
use Rattle.kom_types.specs.calls.Memberships as Memberships
use Rattle.kom_types.specs.calls.AuxItems as AuxItems
use Rattle.kom_calls.proofs.Tables.{past_none, past_next, settled, last}
use Rattle.kom_calls.proofs.reader.call_by_number.Goals as goal

-- the tables before each
abbrev before_server : List Pattern
before_server = Sessions.patterns

abbrev before_persons : List Pattern
before_persons = before_server ++ Server.patterns

abbrev before_conferences : List Pattern
before_conferences = before_persons ++ Persons.patterns

abbrev before_texts : List Pattern
before_texts = before_conferences ++ Conferences.patterns

abbrev before_memberships : List Pattern
before_memberships = before_texts ++ Texts.patterns

abbrev before_aux_items : List Pattern
before_aux_items = before_memberships ++ Memberships.patterns

-- the tables after each
abbrev after_memberships : List Pattern
after_memberships = AuxItems.patterns

abbrev after_texts : List Pattern
after_texts = Memberships.patterns ++ after_memberships

abbrev after_conferences : List Pattern
after_conferences = Texts.patterns ++ after_texts

abbrev after_persons : List Pattern
after_persons = Conferences.patterns ++ after_conferences

abbrev after_server : List Pattern
after_server = Persons.patterns ++ after_persons

abbrev after_sessions : List Pattern
after_sessions = Server.patterns ++ after_server

pub returns-in_err-call : goal.returns-in_err-call
unfolding patterns
returns-in_err-call c =
    let number = c.args.number in
    let tokens = c.args.arguments.now in
    let none = past_none number tokens in
    let p = err_from_is_err_and c.from_residual.result c.from_residual.ensures.1 in
    rw (p.1, p.2) (settled number [] Sessions.patterns after_sessions tokens _ _
    (Err c.in_err-call.field-0.0) none tt c.in_err-call.ensures)

pub returns-in-Some : goal.returns-in-Some
unfolding patterns
returns-in-Some c =
    let number = c.args.number in
    let tokens = c.args.arguments.now in
    let none = past_none number tokens in
    settled number [] Sessions.patterns after_sessions tokens _ _
    (Ok (Some c.in-Some.call)) none tt (rw c.in-Some.is at c.in_ok-call.ensures)

pub returns-in_err-call-2 : goal.returns-in_err-call-2
unfolding patterns
returns-in_err-call-2 c =
    let number = c.args.number in
    let tokens = c.args.arguments.now in
    let none = past_none number tokens in
    let first = past_next number [] Sessions.patterns tokens _ _ _ none
    c.in_ok-call.ensures c.in_default.is in
    let p = err_from_is_err_and c.from_residual-in_err-call-2.result c.from_residual-in_err-call-2.ensures.1 in
    rw (p.1, p.2) (settled number before_server Server.patterns after_server tokens _ _
    (Err c.in_err-call-2.field-0.0) first tt c.in_err-call-2.ensures)

pub returns-in-Some-2 : goal.returns-in-Some-2
unfolding patterns
returns-in-Some-2 c =
    let number = c.args.number in
    let tokens = c.args.arguments.now in
    let none = past_none number tokens in
    let first = past_next number [] Sessions.patterns tokens _ _ _ none
    c.in_ok-call.ensures c.in_default.is in
    settled number before_server Server.patterns after_server tokens _ _
    (Ok (Some c.in-Some-2.call)) first tt (rw c.in-Some-2.is at c.in_ok-call-2.ensures)

pub returns-in_err-call-3 : goal.returns-in_err-call-3
unfolding patterns
returns-in_err-call-3 c =
    let number = c.args.number in
    let tokens = c.args.arguments.now in
    let none = past_none number tokens in
    let first = past_next number [] Sessions.patterns tokens _ _ _ none
    c.in_ok-call.ensures c.in_default.is in
    let second = past_next number before_server Server.patterns tokens _ _ _ first
    c.in_ok-call-2.ensures c.in_default-2.is in
    let p = err_from_is_err_and c.from_residual-in_err-call-3.result c.from_residual-in_err-call-3.ensures.1 in
    rw (p.1, p.2) (settled number before_persons Persons.patterns after_persons tokens _ _
    (Err c.in_err-call-3.field-0.0) second tt c.in_err-call-3.ensures)

pub returns-in-Some-3 : goal.returns-in-Some-3
unfolding patterns
returns-in-Some-3 c =
    let number = c.args.number in
    let tokens = c.args.arguments.now in
    let none = past_none number tokens in
    let first = past_next number [] Sessions.patterns tokens _ _ _ none
    c.in_ok-call.ensures c.in_default.is in
    let second = past_next number before_server Server.patterns tokens _ _ _ first
    c.in_ok-call-2.ensures c.in_default-2.is in
    settled number before_persons Persons.patterns after_persons tokens _ _
    (Ok (Some c.in-Some-3.call)) second tt (rw c.in-Some-3.is at c.in_ok-call-3.ensures)

pub returns-in_err-call-4 : goal.returns-in_err-call-4
unfolding patterns
returns-in_err-call-4 c =
    let number = c.args.number in
    let tokens = c.args.arguments.now in
    let none = past_none number tokens in
    let first = past_next number [] Sessions.patterns tokens _ _ _ none
    c.in_ok-call.ensures c.in_default.is in
    let second = past_next number before_server Server.patterns tokens _ _ _ first
    c.in_ok-call-2.ensures c.in_default-2.is in
    let third = past_next number before_persons Persons.patterns tokens _ _ _ second
    c.in_ok-call-3.ensures c.in_default-3.is in
    let p = err_from_is_err_and c.from_residual-in_err-call-4.result c.from_residual-in_err-call-4.ensures.1 in
    rw (p.1, p.2) (settled number before_conferences Conferences.patterns after_conferences tokens _ _
    (Err c.in_err-call-4.field-0.0) third tt c.in_err-call-4.ensures)

pub returns-in-Some-4 : goal.returns-in-Some-4
unfolding patterns
returns-in-Some-4 c =
    let number = c.args.number in
    let tokens = c.args.arguments.now in
    let none = past_none number tokens in
    let first = past_next number [] Sessions.patterns tokens _ _ _ none
    c.in_ok-call.ensures c.in_default.is in
    let second = past_next number before_server Server.patterns tokens _ _ _ first
    c.in_ok-call-2.ensures c.in_default-2.is in
    let third = past_next number before_persons Persons.patterns tokens _ _ _ second
    c.in_ok-call-3.ensures c.in_default-3.is in
    settled number before_conferences Conferences.patterns after_conferences tokens _ _
    (Ok (Some c.in-Some-4.call)) third tt (rw c.in-Some-4.is at c.in_ok-call-4.ensures)

pub returns-in_err-call-5 : goal.returns-in_err-call-5
unfolding patterns
returns-in_err-call-5 c =
    let number = c.args.number in
    let tokens = c.args.arguments.now in
    let none = past_none number tokens in
    let first = past_next number [] Sessions.patterns tokens _ _ _ none
    c.in_ok-call.ensures c.in_default.is in
    let second = past_next number before_server Server.patterns tokens _ _ _ first
    c.in_ok-call-2.ensures c.in_default-2.is in
    let third = past_next number before_persons Persons.patterns tokens _ _ _ second
    c.in_ok-call-3.ensures c.in_default-3.is in
    let fourth = past_next number before_conferences Conferences.patterns tokens _ _ _ third
    c.in_ok-call-4.ensures c.in_default-4.is in
    let p = err_from_is_err_and c.from_residual-in_err-call-5.result c.from_residual-in_err-call-5.ensures.1 in
    rw (p.1, p.2) (settled number before_texts Texts.patterns after_texts tokens _ _
    (Err c.in_err-call-5.field-0.0) fourth tt c.in_err-call-5.ensures)

pub returns-in-Some-5 : goal.returns-in-Some-5
unfolding patterns
returns-in-Some-5 c =
    let number = c.args.number in
    let tokens = c.args.arguments.now in
    let none = past_none number tokens in
    let first = past_next number [] Sessions.patterns tokens _ _ _ none
    c.in_ok-call.ensures c.in_default.is in
    let second = past_next number before_server Server.patterns tokens _ _ _ first
    c.in_ok-call-2.ensures c.in_default-2.is in
    let third = past_next number before_persons Persons.patterns tokens _ _ _ second
    c.in_ok-call-3.ensures c.in_default-3.is in
    let fourth = past_next number before_conferences Conferences.patterns tokens _ _ _ third
    c.in_ok-call-4.ensures c.in_default-4.is in
    settled number before_texts Texts.patterns after_texts tokens _ _
    (Ok (Some c.in-Some-5.call)) fourth tt (rw c.in-Some-5.is at c.in_ok-call-5.ensures)

pub returns-in_err-call-6 : goal.returns-in_err-call-6
unfolding patterns
returns-in_err-call-6 c =
    let number = c.args.number in
    let tokens = c.args.arguments.now in
    let none = past_none number tokens in
    let first = past_next number [] Sessions.patterns tokens _ _ _ none
    c.in_ok-call.ensures c.in_default.is in
    let second = past_next number before_server Server.patterns tokens _ _ _ first
    c.in_ok-call-2.ensures c.in_default-2.is in
    let third = past_next number before_persons Persons.patterns tokens _ _ _ second
    c.in_ok-call-3.ensures c.in_default-3.is in
    let fourth = past_next number before_conferences Conferences.patterns tokens _ _ _ third
    c.in_ok-call-4.ensures c.in_default-4.is in
    let fifth = past_next number before_texts Texts.patterns tokens _ _ _ fourth
    c.in_ok-call-5.ensures c.in_default-5.is in
    let p = err_from_is_err_and c.from_residual-in_err-call-6.result c.from_residual-in_err-call-6.ensures.1 in
    rw (p.1, p.2) (settled number before_memberships Memberships.patterns after_memberships tokens _ _
    (Err c.in_err-call-6.field-0.0) fifth tt c.in_err-call-6.ensures)

pub returns-in-Some-6 : goal.returns-in-Some-6
unfolding patterns
returns-in-Some-6 c =
    let number = c.args.number in
    let tokens = c.args.arguments.now in
    let none = past_none number tokens in
    let first = past_next number [] Sessions.patterns tokens _ _ _ none
    c.in_ok-call.ensures c.in_default.is in
    let second = past_next number before_server Server.patterns tokens _ _ _ first
    c.in_ok-call-2.ensures c.in_default-2.is in
    let third = past_next number before_persons Persons.patterns tokens _ _ _ second
    c.in_ok-call-3.ensures c.in_default-3.is in
    let fourth = past_next number before_conferences Conferences.patterns tokens _ _ _ third
    c.in_ok-call-4.ensures c.in_default-4.is in
    let fifth = past_next number before_texts Texts.patterns tokens _ _ _ fourth
    c.in_ok-call-5.ensures c.in_default-5.is in
    settled number before_memberships Memberships.patterns after_memberships tokens _ _
    (Ok (Some c.in-Some-6.call)) fifth tt (rw c.in-Some-6.is at c.in_ok-call-6.ensures)

pub returns : goal.returns
unfolding patterns
returns c =
    let number = c.args.number in
    let tokens = c.args.arguments.now in
    let none = past_none number tokens in
    let first = past_next number [] Sessions.patterns tokens _ _ _ none
    c.in_ok-call.ensures c.in_default.is in
    let second = past_next number before_server Server.patterns tokens _ _ _ first
    c.in_ok-call-2.ensures c.in_default-2.is in
    let third = past_next number before_persons Persons.patterns tokens _ _ _ second
    c.in_ok-call-3.ensures c.in_default-3.is in
    let fourth = past_next number before_conferences Conferences.patterns tokens _ _ _ third
    c.in_ok-call-4.ensures c.in_default-4.is in
    let fifth = past_next number before_texts Texts.patterns tokens _ _ _ fourth
    c.in_ok-call-5.ensures c.in_default-5.is in
    let sixth = past_next number before_memberships Memberships.patterns tokens _ _ _ fifth
    c.in_ok-call-6.ensures c.in_default-6.is in
    last number before_aux_items AuxItems.patterns tokens _ _ _ sixth c.aux_item_call.ensures
