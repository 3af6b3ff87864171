-- What contracts see of a talker.
use Rattle.std.specs.Prelude.{ℕ, List}
use Rattle.kom_links.specs.Doors.{SinkView}
use Rattle.kom_links.specs.Outside.{LinkView}
use Rattle.kom_client.specs.declared.talker.Talker.{Talker}
use Rattle.kom_client.specs.Client.{Turn}
use Rattle.kom_client.specs.Talking.{World, Typing}

-- what a talk is to remember
abbrev pub turn_of : Talker → Turn
turn_of talker = record { reference = talker.reference; person = talker.person.items }

abbrev pub world : Talker → LinkView → SinkView → World
world talker link sink = record {
  splitting = talker.hearing.splitter;
  fault = talker.hearing.fault;
  link = link;
  sink = sink;
}

abbrev pub typing_of : Talker → List ℕ → LinkView → SinkView → Typing
typing_of talker held link sink =
    record { turn = turn_of talker; held = held; world = world talker link sink }
