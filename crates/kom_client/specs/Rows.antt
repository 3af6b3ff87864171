-- Talks that were worked out by hand.
use Rattle.std.specs.Prelude.{◌≡◌, ◌++◌, [], codes}
use Rattle.kom_client.specs.declared.talk_end.TalkEnd.TheVariants as end
use Rattle.kom_client.specs.Client.{client}

pub record ClientRows : Type 0 where
  pub client_talk : client (codes "u") (codes "login 5 \nread 1\nfoo\n")
      (codes "LysKOM\n=1\n:2 9 5 1\n%2 14 1\n")
      ≡ record {
        sent = codes "A1Hu\n1 62 5 0H 0\n2 25 1 0 4294967295\n";
        shown = codes "ok\n* 2 9 5 1\nerror 14 1\n?\n";
        end = end.End;
      }
  pub writes_and_marks : client (codes "u")
      (codes "write 6 Hi there\ncomment 6 1 \nmark 6 1\n") (codes "LysKOM\n=1 1\n=2 2\n=3\n")
      ≡ record {
        sent = codes "A1Hu\n1 86 8HHi there 1 { 0 6 } 0 { }\n"
            ++ codes "2 86 0H 2 { 0 6 2 1 } 0 { }\n3 27 6 1 { 1 }\n";
        shown = codes "ok 1\nok 2\nok\n";
        end = end.End;
      }
  pub unanswered : client (codes "u") (codes "write 6 Hi there\ncomment 6 1 \nmark 6 1\n")
      (codes "LysKOM\n")
      ≡ record {
        sent = codes "A1Hu\n1 86 8HHi there 1 { 0 6 } 0 { }\n";
        shown = [];
        end = end.ServerEnd;
      }
