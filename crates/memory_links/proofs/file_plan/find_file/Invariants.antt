use Rattle.std.proofs.Common.{◌≡◌, take, None}
use Rattle.std.specs.Prelude.{option_map}
use Rattle.memory_links.specs.Files.{file_at}
use Rattle.memory_links.proofs.file_plan.find_file.Given as goal

abbrev pub invariant-loop-file : goal.invariant-loop-file
invariant-loop-file l =
    option_map (λ file. file.now) l.found ≡ file_at None (take l.file-index l.files) l.path
