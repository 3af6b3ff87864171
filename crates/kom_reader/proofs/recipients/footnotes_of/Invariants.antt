use Rattle.std.proofs.Common.{◌≡◌, [], drop}
use Rattle.std.specs.List.{filter_map}
use Rattle.kom_reader.specs.Links.{footnote_in, all_rising}
use Rattle.kom_reader.proofs.recipients.footnotes_of.Given as goal

abbrev pub invariant-loop-link : goal.invariant-loop-link
invariant-loop-link l =
    all_rising l.texts.items (filter_map footnote_in (drop l.link-index l.links))
    ≡ all_rising [] (filter_map footnote_in l.links)
