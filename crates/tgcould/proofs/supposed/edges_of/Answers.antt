use Rattle.std.proofs.Common.{refl}
use Rattle.std.proofs.lemmas.Option.{IfSome_then}
use Rattle.std.proofs.lemmas.Result.{IfOk-weaker}
use Rattle.clap.specs.Matches.{matched_of, found_of}
use Rattle.tgcould.specs.declared.options.TheConstants.{AS_IF}
use Rattle.tgcould.specs.Supposed.{WritesEdge}
use Rattle.tgcould.proofs.OptionLaws.{zip_values}
use Rattle.tgcould.proofs.supposed.edges_of.Goals as goal

pub returns : goal.returns
returns g c =
    IfOk-weaker c.read_edges.result _ _
    (λ read some.
    IfSome_then read some
    (λ edges all.
    zip_values WritesEdge edges.items c.get_strs.result _ c.unwrap_or.result (matched_of (found_of c.args.matches.now) AS_IF.now) c.unwrap_or.ensures refl c.get_strs.ensures all))
    c.read_edges.ensures
