use Rattle.memory_links.proofs.memory_link.MemoryLinkLink.write.Goals as goal

pub returns-then-holds_write-clause-writes : goal.returns-then-holds_write-clause-writes
returns-then-holds_write-clause-writes c = c.hold_write.ensures.writes c.args.from.now
