use Rattle.std.proofs.Common.{ℕ, List, drop, subst, sym}
use Rattle.tg_keep.specs.Lines.{file_texts}
use Rattle.tg_kept.specs.Reopening.{IsTextOfLines}
use Rattle.tg_kept.proofs.ReadLaws.{read_history_says}
use Rattle.tg_kept.proofs.read.read_lines.Goals as goal

pub returns-in-Ok : goal.returns-in-Ok
returns-in-Ok c =
    let lines = drop 1 (file_texts c.args.file.now) in
    let P : List ℕ → Type 0 = λ text. IsTextOfLines lines text in
    read_history_says c.args.file.now c.as_slice.result.now c.read_history.result (subst P (sym c.as_slice.ensures.value) c.in-Ok.ensures) c.read_history.ensures.read
