use Rattle.std.proofs.Common.{◌≡◌, ◌++◌, ℕ, List, ◌∙◌, subst}
use Rattle.tg_entries.specs.Read.{HasRead}
use Rattle.tg_entries.specs.Texts.{IsAudited, end_text}
use Rattle.tgaudit.proofs.KeptLaws.{is_counted}
use Rattle.tgaudit.proofs.kept.is_ended.Goals as goal

pub returns-in-Ok : goal.returns-in-Ok
returns-in-Ok g c text has true =
    let same : c.as_bytes.result.now ≡ end_text c.args.entries = c.as_bytes.ensures.value ∙ c.in_ok-last.ensures in
    let read : HasRead (text ++ end_text c.args.entries) c.line.new.self = subst (λ (l : List ℕ). HasRead (text ++ l) c.line.new.self) same (c.in-Ok.ensures.read text has) in
    is_counted c.ended.result c.args.entries (IsAudited (text ++ end_text c.args.entries)) (c.has_count.ensures true) (c.ended.ensures (text ++ end_text c.args.entries) read)
