use Rattle.std.proofs.Common.{◌≡◌, ◌++◌, take}
use Rattle.std.specs.Prelude.{flat_map, codes}
use Rattle.root_image.specs.Lines.{entry_lines, lines_text}
use Rattle.root_image.proofs.text.write.Given as goal

-- the entries so far stand after the first line
abbrev pub invariant-loop-path : goal.invariant-loop-path
invariant-loop-path l = l.text.items ≡ codes "rootfs 1\n" ++ flat_map (λ entry. lines_text (entry_lines entry.0 entry.1)) (take l.path-index l.path-items)
