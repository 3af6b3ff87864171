use Rattle.kom_replies.proofs.replies.put_result.Goals as goal

pub returns-in-TextStat-clause-ok : goal.returns-in-TextStat-clause-ok
returns-in-TextStat-clause-ok g c = rw c.in-TextStat.is c.put_boxed.ensures.ok

pub returns-in-Conference-clause-ok : goal.returns-in-Conference-clause-ok
returns-in-Conference-clause-ok g c = rw c.in-Conference.is c.put_boxed-in-Conference.ensures.ok

pub returns-in-Person-clause-ok : goal.returns-in-Person-clause-ok
returns-in-Person-clause-ok g c = rw c.in-Person.is c.put_boxed-in-Person.ensures.ok

pub returns-in-Membership-clause-ok : goal.returns-in-Membership-clause-ok
returns-in-Membership-clause-ok g c = rw c.in-Membership.is c.put_boxed-in-Membership.ensures.ok

pub returns-in-StaticSession-clause-ok : goal.returns-in-StaticSession-clause-ok
returns-in-StaticSession-clause-ok g c = rw c.in-StaticSession.is c.put_boxed-in-StaticSession.ensures.ok
