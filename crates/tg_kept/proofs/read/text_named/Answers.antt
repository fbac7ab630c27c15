use Rattle.std.proofs.Common.{◌≡◌, ◌∙◌, ◌++◌, ℕ, List, ap, drop}
use Rattle.std.specs.List.{flat_map}
use Rattle.tg_entries.specs.Texts.{end_text, version_text}
use Rattle.tg_keep.specs.Lines.{file_texts}
use Rattle.tg_kept.specs.Texts.{ended_line}
use Rattle.tg_kept.proofs.ReadLaws.{text_written}
use Rattle.tg_kept.proofs.read.text_named.Goals as goal

pub returns-in-Ok : goal.returns-in-Ok
returns-in-Ok g c =
    let lines = drop 1 (file_texts c.args.file.now) in
    let version = c.extend_from_slice.new.self.items in
    let first : version ≡ version_text = c.in_ok-extend_from_slice.ensures.items ∙ ap (λ (t : List ℕ). t ++ version_text) c.new-text.ensures.bytes in
    let more : c.add_lines.new.text.items ≡ version ++ flat_map ended_line lines = c.in_ok-count.ensures ∙ ap (λ (l : List (List ℕ)). version ++ flat_map ended_line l) c.after_first.ensures in
    let last : c.write_end.new.sink.bytes.items ≡ c.add_lines.new.text.items ++ end_text c.in_ok-count.count = cc c.in-Ok.ensures.0 in
    text_written lines c.in_ok-count.count version c.add_lines.new.text.items c.write_end.new.sink.bytes.items first more last
