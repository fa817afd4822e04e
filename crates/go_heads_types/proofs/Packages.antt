-- What files keep, in the words of the check of a package.
use Rattle.std.proofs.Common.{◌≡◌, ◌∙◌, ℕ, zero, suc, List, [], ◌∷◌, map, length, Some, refl, sym, ap, arith}
use Rattle.std.specs.Prelude.{slice_get}
use Rattle.go_grammar.specs.Trees.{first}
use Rattle.go_tree.specs.declared.object.Declared.{Declared}
use Rattle.go_tree.specs.Units.{word}
use Rattle.go_tree.specs.Uses.{UsesView, uses, object_of}
use Rattle.go_typed.specs.Packages.{referents}
use Rattle.go_package_defs.specs.Bodies.{which_types, locals_there, types_in}
use Rattle.go_package_defs.specs.Knowledge.{is_type}
use Rattle.go_package_defs.specs.Sources.{Source, Package, unit_of, tokens_there, text_at}
use Rattle.go_heads.specs.Functions.{Function, body_texts, all_functions, function_alone}
use Rattle.go_heads.specs.Heads.{File}
use Rattle.go_heads_types.specs.Portions.{files_of, AreNamed}
use Rattle.go_heads.specs.Objects as by_files
use Rattle.go_heads.specs.Objects.{KeepsObjects, SameObject, units_of, file_in, file_there}
use Rattle.go_heads.specs.Lookups.{KeepsLookups}
use Rattle.go_heads.specs.Locals.{SameLocals, local_in_file, own_locals}
use Rattle.go_heads_types.specs.Packages.{IsResolved, SameDeclared, KeepsNames}

pub units_same : (names : List (List ℕ)) (ss : List Source) → AreNamed names ss → units_of (files_of names ss) ≡ map unit_of ss
units_same [] [] e = refl
units_same [] (s ∷ ss) e = absurd (omega (arith, e))
units_same (w ∷ ws) [] e = absurd (omega (arith, e))
units_same (w ∷ ws) (s ∷ ss) e = ap (λ us. unit_of s ∷ us) (units_same ws ss (omega (arith, e)))

tokens_same : (names : List (List ℕ)) (ss : List Source) → AreNamed names ss → (n : ℕ) → (file_in (files_of names ss) n).tokens ≡ tokens_there (slice_get ss n)
tokens_same [] [] e n = refl
tokens_same [] (s ∷ ss) e n = absurd (omega (arith, e))
tokens_same (w ∷ ws) [] e n = absurd (omega (arith, e))
tokens_same (w ∷ ws) (s ∷ ss) e zero = refl
tokens_same (w ∷ ws) (s ∷ ss) e (suc n) = tokens_same ws ss (omega (arith, e)) n

types_moved : (n b : ℕ) (ds : List Declared) → which_types (map (local_in_file n b) ds) ≡ which_types ds
types_moved n b [] = refl
types_moved n b (d ∷ ds) = ap (λ bs. is_type d.entity ∷ bs) (types_moved n b ds)

-- the names of a package are those of its files
pub by_units : (p : Package) (names : List (List ℕ)) → IsResolved p names → p.uses ≡ uses (units_of (files_of names p.sources))
by_units p names h = h.uses ∙ ap uses (sym (units_same names p.sources h.named))

text_by : (p : Package) (names : List (List ℕ)) → IsResolved p names → (n t : ℕ) → text_at p n t ≡ by_files.text_at (files_of names p.sources) n t
text_by p names h n t = ap (λ l. word l t) (sym (tokens_same names p.sources h.named n))

module _ (p q : Package) (names others : List (List ℕ)) (h : IsResolved p names) (k : IsResolved q others) where
  abbrev old : List File
  old = files_of names p.sources

  abbrev new : List File
  new = files_of others q.sources

  same_declared : (x y : Declared) → SameObject old new x y → SameDeclared p q x y
  same_declared x y s = record {
    file = s.file;
    text = text_by q others k y.file y.name ∙ s.text ∙ sym (text_by p names h x.file x.name);
    entity = s.entity;
  }

  same_types : (n : ℕ) (f g : Function) → SameLocals old new n f g → types_in q n ≡ types_in p n
  same_types n f g s =
      ap (λ (u : UsesView). which_types (locals_there (slice_get u.locals n))) (by_units q others k) ∙ ap (λ o. which_types (locals_there o)) s.after ∙ types_moved s.new_file (first g.tree) (own_locals (function_alone f))
      ∙ sym (ap (λ (u : UsesView). which_types (locals_there (slice_get u.locals n))) (by_units p names h) ∙ ap (λ o. which_types (locals_there o)) s.before ∙ types_moved s.old_file (first f.tree) (own_locals (function_alone f)))

  pub names_kept : KeepsObjects old new → KeepsLookups old new
      → ((n : ℕ) (f g : Function) → slice_get (all_functions old) n ≡ Some f → slice_get (all_functions new) n ≡ Some g → body_texts g ≡ body_texts f → SameLocals old new n f g)
      → KeepsNames p q names others
  names_kept objects lookups locals = record {
    count = ap (λ (u : UsesView). length u.package_level) (by_units q others k) ∙ objects.count ∙ sym (ap (λ (u : UsesView). length u.package_level) (by_units p names h));
    referents = ap (λ (u : UsesView). referents u.package_level) (by_units q others k) ∙ objects.referents ∙ sym (ap (λ (u : UsesView). referents u.package_level) (by_units p names h));
    declared =
        λ n x y a b.
        same_declared x y (objects.objects n x y (sym (ap (λ (u : UsesView). slice_get u.package_level n) (by_units p names h)) ∙ a) (sym (ap (λ (u : UsesView). slice_get u.package_level n) (by_units q others k)) ∙ b));
    objects =
        λ n t u at used.
        ap (λ v. object_of v n u) (by_units q others k) ∙ lookups.objects n t u at used ∙ sym (ap (λ v. object_of v n t) (by_units p names h));
    types = λ n d e s. same_types n s.old s.new (locals n s.old s.new s.old_stands s.new_stands s.bodies);
  }
