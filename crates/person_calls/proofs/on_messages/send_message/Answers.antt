use Rattle.std.proofs.Common.{◌≡◌, rules}
use Rattle.kom_model.specs.calls.Sessions.{is_sent}
use Rattle.person_calls.proofs.on_messages.send_message.Goals as goal

pub returns-in_err-unless : goal.returns-in_err-unless
returns-in_err-unless c =
    let sent : c.is_sent.result ≡ is_sent c.args.asked.now c.args.recipient c.args.text.now =
    c.is_sent.ensures c.args.text.now in
    search (rules, sent)

pub returns : goal.returns
returns c =
    let sent : c.is_sent.result ≡ is_sent c.args.asked.now c.args.recipient c.args.text.now =
    c.is_sent.ensures c.args.text.now in
    search (rules, sent)
