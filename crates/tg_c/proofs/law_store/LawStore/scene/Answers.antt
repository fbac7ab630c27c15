use Rattle.std.proofs.Common.{refl}
use Rattle.tg_model.specs.Graph.{ProtectionGraph}
use Rattle.tg_store.proofs.StandLaws.{sound_of}
use Rattle.tg_store.specs.Store.{graph_of_store}
use Rattle.tg_c.proofs.law_store.LawStore.scene.Goals as goal

pub returns : goal.returns
returns c =
    let s = c.args.self.now.store in
    let g : ProtectionGraph = graph_of_store s in
    record {
      told = record {
        active = c.are_workers.ensures.0 c.if-not-are_workers.false;
        sound = sound_of s c.journal.ensures.faithful;
        picture = c.in_ok-picture.ensures g refl;
        edges = c.in_ok-as_if.ensures.edges.1;
      };
      refused = tt;
    }
