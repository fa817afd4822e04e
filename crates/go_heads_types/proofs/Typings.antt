-- The functions of packages with equal heads, with their types.
use Rattle.std.proofs.Common.{◌≡◌, ◌∙◌, ℕ, zero, suc, ◌+◌, ◌<◌, ◌⊎◌, inl, inr, List, Some, sym, ap, arith}
use Rattle.std.specs.Prelude.{slice_get}
use Rattle.go_heads.specs.Functions.{AreRead}
use Rattle.go_package_defs.specs.Answer.{Environment, package_answer}
use Rattle.go_package_defs.specs.Bodies.{Behind, Surroundings, count_types, typed_function, types_in}
use Rattle.go_package_defs.specs.Checked.{Typing, surroundings_of}
use Rattle.go_package_defs.specs.Sources.{Source, Package, package_of}
use Rattle.go_heads_types.specs.Portions.{files_of, AreNamed, function_specifications}
use Rattle.go_tree.specs.Uses.{UsesView, uses}
use Rattle.go_typed.specs.declared.form.Referent.{Referent}
use Rattle.go_typed.specs.Packages.{referents}
use Rattle.go_heads_types.specs.Answers.{KeepsAnswer}
use Rattle.go_heads_types.proofs.Kept.{units_same}
use Rattle.go_heads.specs.Objects.{KeepsObjects}
use Rattle.go_heads_types.specs.HeadPortions.{IsFaultless, KeepsTypedFunctions}
use Rattle.go_heads_types.specs.Typings.{rights_before, KeepsBody, HasNoTypes, KeepsTypes}
use Rattle.go_heads_types.proofs.Rights.{none_after}
use Rattle.go_heads_types.proofs.Steps.{two_answers, Answered, AtStep, at_step}

pub is_faultless : (ss : List Source) (names : List (List ℕ)) (t : Typing) → AreNamed names ss → AreRead (files_of names ss) → Answered ss t → IsFaultless (package_of ss t.uses) names
is_faultless ss names t x h e = record { named = x; read = h; uses = e.meant; faultless = e.clean }

module _ (ss us : List Source) (names others : List (List ℕ)) (x : AreNamed names ss) (y : AreNamed others us) (t z : Typing) (before : Answered ss t) (after : Answered us z)
    (answer : KeepsAnswer ss us t.uses z.uses) (objects : KeepsObjects (files_of names ss) (files_of others us)) (functions : KeepsTypedFunctions (package_of ss t.uses) (package_of us z.uses) names others) where
  abbrev p : Package
  p = package_of ss t.uses

  abbrev q : Package
  q = package_of us z.uses

  abbrev a : Surroundings
  a = surroundings_of t.uses t.environment

  abbrev b : Surroundings
  b = surroundings_of z.uses z.environment

  abbrev named : UsesView → List Referent
  named u = referents u.package_level

  pub environment_same : z.environment ≡ t.environment
  environment_same = two_answers (package_answer us z.uses) t.environment z.environment (answer.before t.environment before.environment) after.environment

  referents_same : named z.uses ≡ named t.uses
  referents_same =
      ap named (after.meant ∙ ap uses (sym (units_same others us y))) ∙ objects.referents ∙ sym (ap named (before.meant ∙ ap uses (sym (units_same names ss x))))

  pub surroundings_same : b ≡ a
  surroundings_same =
      ap (λ (e : Environment). surroundings_of z.uses e) environment_same ∙ ap (λ rs. by rs) referents_same
    where
      by : List Referent → Surroundings
      by rs = record { objects = t.environment.objects; referents = rs }

  abbrev Same : ℕ → Type 0
  Same k = KeepsBody p q names others k

  abbrev Left : ℕ → Type 0
  Left k = rights_before us z k ≡ rights_before ss t k

  pub step_old : (k : ℕ) (s : Same k) → AtStep p a t.environment.rights 0 (function_specifications p) t.bodies k s.old
  step_old k s = at_step p a t.environment.rights 0 (function_specifications p) t.bodies k s.old before.bodies s.same.old_specified

  pub step_new : (k : ℕ) (s : Same k) → AtStep q b z.environment.rights 0 (function_specifications q) z.bodies k s.new
  step_new k s = at_step q b z.environment.rights 0 (function_specifications q) z.bodies k s.new after.bodies s.same.new_specified

  behind_same : (k : ℕ) (s : Same k) → Left k → AtStep.behind (step_new k s) ≡ AtStep.behind (step_old k s)
  behind_same k s e =
      let old = step_old k s in
      let new = step_new k s in
      let number : 0 + k ≡ k = omega arith in
      two_answers (typed_function p a (rights_before ss t k) (0 + k) s.old) old.behind new.behind old.typed
      (ap (λ i. typed_function p a (rights_before ss t k) i s.old) number
      ∙ sym (ap (λ i. typed_function q b (rights_before us z k) i s.new) number
      ∙ ap (λ c. typed_function q c (rights_before us z k) k s.new) surroundings_same
      ∙ ap (λ r. typed_function q a r k s.new) e
      ∙ functions.typed k s.old s.new s.same a (rights_before ss t k))
      ∙ new.typed)

  function_same : (k : ℕ) → Same k → Left k → slice_get z.bodies.functions k ≡ slice_get t.bodies.functions k
  function_same k s e =
      let old = step_old k s in
      let new = step_new k s in
      new.stands ∙ ap (λ (c : Behind). Some c.function) (behind_same k s e) ∙ sym old.stands

  rights_same : (k : ℕ) → Same k → Left k → Left (suc k)
  rights_same k s e =
      let old = step_old k s in
      let new = step_new k s in
      new.next ∙ ap (λ (c : Behind). c.rights) (behind_same k s e) ∙ sym old.next

  none_left : (k : ℕ) → HasNoTypes p q k → Left k → Left (suc k)
  none_left k s e =
      let number : 0 + k ≡ k = omega arith in
      none_after q b z.environment.rights 0 (function_specifications q) k (ap (λ i. count_types (types_in q i)) number ∙ s.new)
      ∙ e ∙ sym (none_after p a t.environment.rights 0 (function_specifications p) k (ap (λ i. count_types (types_in p i)) number ∙ s.old))

  either_left : (k : ℕ) → Same k ⊎ HasNoTypes p q k → Left k → Left (suc k)
  either_left k (inl s) e = rights_same k s e
  either_left k (inr s) e = none_left k s e

  rights_in_front : (m : ℕ) → ((k : ℕ) → k < m → Same k ⊎ HasNoTypes p q k) → Left m
  rights_in_front zero f = ap (λ (e : Environment). e.rights) environment_same
  rights_in_front (suc m) f = either_left m (f m (omega arith)) (rights_in_front m (λ k lt. f k (omega (arith, lt))))

  pub types_kept : KeepsTypes ss us names others t z
  types_kept = record {
    environment = environment_same;
    function = function_same;
    rights = rights_same;
    behind = λ m f s. function_same m s (rights_in_front m f);
  }
