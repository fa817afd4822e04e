use Rattle.std.proofs.Common.{◌≡◌, drop}
use Rattle.alpha_hash_defs.specs.Packages.{declared_text}
use Rattle.alpha_hash.proofs.names.declared_text.Given as goal

abbrev pub invariant-loop-number : goal.invariant-loop-number
invariant-loop-number l =
    declared_text l.checked l.outline l.checked.env.referents l.checked.uses.package_level
    ≡ declared_text l.checked l.outline (drop l.number l.checked.env.referents) (drop l.number l.checked.uses.package_level)
