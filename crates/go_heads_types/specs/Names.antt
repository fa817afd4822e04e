-- What two packages share of names.
use Rattle.std.specs.Prelude.{◌≡◌, ℕ, true}
use Rattle.go_typed.specs.Packages.{PackageView}
use Rattle.go_print.specs.Names.{declared_name}
use Rattle.clone_window.specs.declared.outline.Outline.{Outline}
use Rattle.clone_classes.specs.Heads.{corresponds}
use Rattle.alpha_hash_defs.specs.Packages.{object_text}

-- Declared types that correspond have one name, and what names of objects show has one name.
pub record AreNamedAlike (p q : PackageView) : Type 0 where
  pub types : (n m : ℕ) → corresponds p q n m ≡ true → declared_name p n ≡ declared_name q m
  pub objects : (o : Outline) → object_text p o ≡ object_text q o
