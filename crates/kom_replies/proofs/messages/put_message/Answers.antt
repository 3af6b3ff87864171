use Rattle.kom_replies.proofs.messages.put_message.Goals as goal

pub returns-in-DeletedText-clause-ok : goal.returns-in-DeletedText-clause-ok
returns-in-DeletedText-clause-ok g c =
    rw c.in-DeletedText.is (rw c.get-in-DeletedText.ensures at c.put_stat.ensures.ok)

pub returns-in-NewText-clause-ok : goal.returns-in-NewText-clause-ok
returns-in-NewText-clause-ok g c =
    rw c.in-NewText.is (rw c.get-in-NewText.ensures at c.put_stat-in-NewText.ensures.ok)
