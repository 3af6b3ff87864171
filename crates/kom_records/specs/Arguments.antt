-- How the arguments of messages are read. (Protocol A, "Asynchronous Messages".)
use Rattle.std.specs.Prelude.{ℕ, List}
use Rattle.kom_types.specs.declared.messages.Message.{Message}
use Rattle.kom_types.specs.declared.messages.Message.TheVariants as message
use Rattle.kom_types.specs.declared.texts.TextStat.{TextStat}
use Rattle.kom_types.specs.Token.{Token}
use Rattle.kom_types.specs.calls.Arguments.{Taken, Took, then}
use Rattle.kom_records.specs.Records.{text_stat, aux_item}
use Rattle.kom_records.specs.Rules.{number, text, array}

abbrev pub two_numbers : (ℕ → ℕ → Message) → List Token → Taken Message
two_numbers make tokens =
    then (number tokens) (λ first t. then (number t) (λ second. Took (make first second)))

abbrev pub three_numbers : (ℕ → ℕ → ℕ → Message) → List Token → Taken Message
three_numbers make tokens =
    then (number tokens) (λ first t.
    then (number t) (λ second t.
    then (number t) (λ third. Took (make first second third))))

abbrev pub new_name : List Token → Taken Message
new_name tokens =
    then (number tokens) (λ conference t.
    then (text t) (λ old_name t.
    then (text t) (λ new_name. Took (message.NewName (record {
      conference = conference;
      old_name = old_name;
      new_name = new_name;
    })))))

abbrev pub message_sent : List Token → Taken Message
message_sent tokens =
    then (number tokens) (λ recipient t.
    then (number t) (λ sender t.
    then (text t) (λ bytes. Took (message.SendMessage (record {
      recipient = recipient;
      sender = sender;
      text = bytes;
    })))))

abbrev pub with_stat : (ℕ → TextStat → Message) → List Token → Taken Message
with_stat make tokens =
    then (number tokens) (λ which t. then (text_stat t) (λ stat. Took (make which stat)))

abbrev pub aux_changed : List Token → Taken Message
aux_changed tokens =
    then (number tokens) (λ which t.
    then (array aux_item t) (λ deleted t.
    then (array aux_item t) (λ added. Took (message.TextAuxChanged (record {
      text = which;
      deleted = deleted;
      added = added;
    })))))
