use Rattle.std.proofs.Common.{Bool}
use Rattle.std.specs.Prelude.{IsOk, IsTrue}
use Rattle.std.proofs.lemmas.Result.{IfOk-weaker}
use Rattle.tg_model.specs.Graph.{ProtectionGraph}
use Rattle.tg_model.specs.Picture.{IsPictureOf}
use Rattle.tg_could.specs.Turns.{LeadThere, with_names}
use Rattle.tg_could.specs.Inner.Trial.{Stands}
use Rattle.tg_could.proofs.witness.replay.Goals as goal

pub returns : goal.returns
returns c =
    let p = c.args.scene.now.picture.now in
    let Leads : ProtectionGraph → Type 0 = λ g. LeadThere c.args.scene.now.silent.now (with_names g c.args.witness.now.names) c.args.witness.now.turns.now c.args.question.x c.args.question.right c.args.question.y in
    let Each : Bool → Type 0 = λ lead. IsTrue lead → (g : ProtectionGraph) → IsPictureOf p g → (IsOk c.new-trial.result.rows.grown → Stands p.edges c.new-trial.result g) → Leads g in
    let This : Bool → Type 0 = λ lead. IsTrue lead → (g : ProtectionGraph) → IsPictureOf p g → Leads g in
    IfOk-weaker c.lead_there.result Each This (λ lead each t g picture. each t g picture (λ ok. c.new-trial.ensures ok g picture)) c.lead_there.ensures
