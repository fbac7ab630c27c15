use Rattle.std.proofs.Common.{refl}
use Rattle.std.proofs.lemmas.Option.{IfSome_then}
use Rattle.std.proofs.lemmas.Result.{IfOk-weaker}
use Rattle.clap.specs.Matches.{matched_of, found_of}
use Rattle.tgcould.specs.declared.options.TheConstants.{SILENT}
use Rattle.tgcould.specs.Policies.{WritesWord}
use Rattle.tgcould.proofs.OptionLaws.{zip_values}
use Rattle.tgcould.proofs.supposed.silent_of.Goals as goal

pub returns : goal.returns
returns g c =
    IfOk-weaker c.read_names.result _ _
    (λ read some.
    IfSome_then read some
    (λ names all.
    zip_values WritesWord names.items c.get_strs.result _ c.unwrap_or.result (matched_of (found_of c.args.matches.now) SILENT.now) c.unwrap_or.ensures refl c.get_strs.ensures all))
    c.read_names.ensures
