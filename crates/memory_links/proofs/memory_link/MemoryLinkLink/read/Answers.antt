use Rattle.memory_links.proofs.memory_link.MemoryLinkLink.read.Goals as goal

pub returns-then-holds_read-clause-reads : goal.returns-then-holds_read-clause-reads
returns-then-holds_read-clause-reads c = c.hold_read.ensures.reads c.args.into.now
