use Rattle.kom_client.proofs.Hearings.{heard_fault, heard_end, heard_failed, heard_not_yet, heard_piece, read_listens}
use Rattle.kom_client.proofs.hearing.Hearing.hear_more.Goals as goal

pub returns-in-Some : goal.returns-in-Some
returns-in-Some g c = λ fed taken h none.
    heard_fault (g.L.Link.view c.args.link.now) c.in-Some.place c.in-Some.is h none

pub returns-in-Some-read : goal.returns-in-Some-read
returns-in-Some-read g c =
    let old = g.L.Link.view c.args.link.now in
    let new = g.L.Link.view c.read.new.link in
    heard_piece c.feed.result c.args.self.now.splitter c.feed.new.splitter c.args.self.now.fault c.feed.new.fault old
    new c.first.result.now
    (rw c.first.ensures (read_listens old new c.read.new.self.bytes.items c.in-Some-read.count c.in-Some-read.ensures))
    c.feed.ensures

pub returns-in-NotYet : goal.returns-in-NotYet
returns-in-NotYet g c =
    heard_not_yet c.args.self.now.splitter c.args.self.now.fault (g.L.Link.view c.args.link.now)
    (g.L.Link.view c.read.new.link) c.read.new.self.bytes.items c.in-NotYet.ensures

pub returns-in-End : goal.returns-in-End
returns-in-End g c = λ fed taken h none. heard_end c.in_default.is c.in-End.ensures h none

pub returns-in-Failed : goal.returns-in-Failed
returns-in-Failed g c = λ fed taken h none. heard_failed c.in-Failed.ensures h none
