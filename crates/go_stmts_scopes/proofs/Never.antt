-- What a test of a kind refutes.
use Rattle.std.proofs.Common.{◌≡◌, true, false}

pub never : false ≡ true → ⊥
never e = cc
