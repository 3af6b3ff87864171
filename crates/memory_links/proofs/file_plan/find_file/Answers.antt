use Rattle.std.proofs.Common.{◌≡◌, ◌+◌, ℕ, List, [], ◌∷◌, ◌++◌, take, Option, Some, None, if◌then◌else◌, refl, sym, ◌∙◌}
use Rattle.std.proofs.Common.{ap}
use Rattle.std.specs.Prelude.{string_bytes}
use Rattle.std.specs.Str.{bytes_eq}
use Rattle.std.proofs.lemmas.List.{take_more}
use Rattle.memory_links.specs.Files.{file_at}
use Rattle.memory_links.specs.declared.file_plan.FilePlan.{FilePlan}
use Rattle.memory_links.proofs.file_plan.find_file.Goals as goal

file_at_more : (found : Option FilePlan) (files : List FilePlan) (file : FilePlan) (path : List ℕ)
    → file_at found (files ++ file ∷ []) path
    ≡ (if bytes_eq (string_bytes file.path) path then Some file else file_at found files path)
file_at_more found [] file path = refl
file_at_more found (first ∷ files) file path =
    file_at_more (if bytes_eq (string_bytes first.path) path then Some first else found) files file path

pub loop-file-preserved : goal.loop-file-preserved
loop-file-preserved c =
    let done : List FilePlan = take c.loop-file.file-index c.args.files.now in
    let one : FilePlan = c.file-item.result in
    let more : take (c.loop-file.file-index + 1) c.args.files.now ≡ done ++ one ∷ [] =
    take_more c.args.files.now c.loop-file.file-index one c.loop-file-test.true
    ∙ ap (λ (s : FilePlan). done ++ s ∷ []) (sym c.file-item.is) in
    c.later-found.ensures
    ∙ ap (λ (found : Option FilePlan). if bytes_eq (string_bytes one.path) c.args.path.now then Some one else found)
    c.loop-file.invariant
    ∙ sym (ap (λ (l : List FilePlan). file_at None l c.args.path.now) more
    ∙ file_at_more None done one c.args.path.now)
