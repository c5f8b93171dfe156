-- The file that is looked for is none of those that were passed.
use Rattle.std.proofs.Common.{◌≡◌, map, drop}
use Rattle.ts_link.specs.Files.{file_in}
use Rattle.ts_link.proofs.mem_shelf.find.Given as goal

abbrev pub invariant-loop-file : goal.invariant-loop-file
invariant-loop-file l =
    file_in (map (λ f. (f.name, f.bytes)) l.files) l.name ≡ file_in
    (map (λ f. (f.name, f.bytes)) (drop l.file-index l.files)) l.name
