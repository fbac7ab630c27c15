use Rattle.std.proofs.Common.{◌≡◌, ◌++◌, take}
use Rattle.tg_passes.specs.declared.signed.Maker.TheVariants.{Keeper}
use Rattle.tg_passes.specs.Passes.{sign_all}
use Rattle.tg_shared.proofs.keeper.Keeper.note_all.Given as goal

-- the entries before this one are noted
abbrev pub invariant-loop-entry : goal.invariant-loop-entry
invariant-loop-entry g l = record {
  roll : l.roll ≡ record { signed = l.initial.roll.signed ++ sign_all Keeper (take l.entry-index l.entries); below = l.initial.roll.below };
  keeper : l.self ≡ record { next = l.initial.self.next; made = l.initial.self.made ++ take l.entry-index l.entries; seen = l.roll.signed };
}
