-- Frames that are related at some tokens: what they share, and that they stay related inside of statements and behind them.
use Rattle.std.proofs.Common.{◌≡◌, ◌∙◌, ℕ, Bool, List, [], ◌∷◌, Option, Some, None, refl, sym, ap}
use Rattle.go_types.specs.Trees.{TypeTree}
use Rattle.go_typed.specs.Trees as sort
use Rattle.go_exprs_rules.specs.Settling.{Part}
use Rattle.go_exprs_rules.specs.Sorts.{Stands}
use Rattle.go_exprs_rules.specs.Calls.{results_of}
use Rattle.go_exprs_rules.specs.TypeNodes.{part_type, entry_types}
use Rattle.go_types_relations.specs.Tests.{underlying_of}
use Rattle.go_package_alike.specs.Frames.{SameFrames}
use Rattle.go_stmts_defs.specs.Assigning.{types_in}
use Rattle.go_stmts_defs.specs.Frames.{Frame, rights_of, placed, with_local}
use Rattle.go_stmts_defs.specs.Reading.{back, with_parameter, with_parameters, signature_results, behind_signature, first_parts, entry_names}
use Rattle.go_exprs_elsewhere.specs.Elsewhere.{Moves}
use Rattle.go_exprs_elsewhere.specs.Elsewhere as elsewhere
use Rattle.go_stmts_elsewhere.specs.Frames.{Named}
use Rattle.go_stmts_elsewhere.specs.Marked.{AlongAt}
use Rattle.go_stmts_elsewhere.specs.Replaced.{unsourced}
use Rattle.go_stmts_elsewhere.proofs.Entering.{source_along, tag_along, signature_along}
use Rattle.go_stmts_elsewhere.proofs.Placing.{back_along}

-- ---- frames that say the same

same_back : (r : ℕ → Bool) (a b f g : Frame) → SameFrames r a b → SameFrames r f g → SameFrames r (back a f) (back b g)
same_back r a b f g d c = record {
  around = record {
    rights = c.around.rights;
    iota = d.around.iota;
    needed = c.around.needed;
    limits = c.around.limits;
    tokens = record { texts = c.around.tokens.texts; characters = c.around.tokens.characters; objects = c.around.tokens.objects };
  };
  locals = c.locals;
  types = c.types;
  source = c.source;
  repeats = c.repeats;
  tag = d.tag;
  results = d.results;
}

same_tag : (r : ℕ → Bool) (f g : Frame) → SameFrames r f g → (x : Stands) → SameFrames r (record f { tag = x }) (record g { tag = x })
same_tag r f g c x = record { around = c.around; locals = c.locals; types = c.types; source = c.source; repeats = c.repeats; tag = refl; results = c.results }

same_unsourced : (r : ℕ → Bool) (f g : Frame) → SameFrames r f g → SameFrames r (unsourced f) (unsourced g)
same_unsourced r f g c = record { around = c.around; locals = c.locals; types = c.types; source = refl; repeats = tt; tag = c.tag; results = c.results }

same_results : (r : ℕ → Bool) (f g : Frame) → SameFrames r f g → (a b : List TypeTree) → b ≡ a → SameFrames r (record f { results = a }) (record g { results = b })
same_results r f g c a b e = record { around = c.around; locals = c.locals; types = c.types; source = c.source; repeats = c.repeats; tag = c.tag; results = e }

same_local : (r : ℕ → Bool) (f g : Frame) → SameFrames r f g → (n : ℕ) (x : Stands) → SameFrames r (with_local n x f) (with_local n x g)
same_local r f g c n x = record { around = c.around; locals = ap (placed n (Some x)) c.locals; types = c.types; source = c.source; repeats = c.repeats; tag = c.tag; results = c.results }

same_parameter : (r : ℕ → Bool) (f g : Frame) → SameFrames r f g → (n : Option ℕ) (t : Option TypeTree) → SameFrames r (with_parameter n t f) (with_parameter n t g)
same_parameter r f g c (Some n) (Some t) = same_local r f g c n (sort.Value t)
same_parameter r f g c (Some n) None = c
same_parameter r f g c None t = c

same_parameters : (r : ℕ → Bool) (f g : Frame) → SameFrames r f g → (ns : List (Option ℕ)) (ts : List (Option TypeTree)) → SameFrames r (with_parameters ns ts f) (with_parameters ns ts g)
same_parameters r f g c [] ts = c
same_parameters r f g c (n ∷ ns) [] = c
same_parameters r f g c (n ∷ ns) (t ∷ ts) = same_parameters r (with_parameter n t f) (with_parameter n t g) (same_parameter r f g c n t) ns ts

results_by_rights : (f g : Frame) → rights_of g ≡ rights_of f → (o : Option TypeTree) → signature_results g o ≡ signature_results f o
results_by_rights f g e None = refl
results_by_rights f g e (Some t) = ap (λ r. types_in (results_of (underlying_of r t))) e

same_signature : (r : ℕ → Bool) (f g : Frame) → SameFrames r f g → (x : Option Part) → SameFrames r (behind_signature x f) (behind_signature x g)
same_signature r f g c x =
    let a = signature_results f (part_type x) in
    let b = signature_results g (part_type x) in
    same_parameters r (record f { results = a }) (record g { results = b }) (same_results r f g c a b (results_by_rights f g c.around.rights (part_type x))) (entry_names (first_parts x)) (entry_types (first_parts x))

-- ---- frames that are related

module _ (p q : ℕ → Bool) (m : Moves) (l : ℕ → Bool) where
  pub rights_at : (f g : Frame) → AlongAt p q m l f g → rights_of g ≡ rights_of f
  rights_at f g c = c.new_same.around.rights ∙ c.along.rights ∙ sym c.old_same.around.rights

  pub tag_at : (f g : Frame) → AlongAt p q m l f g → g.tag ≡ f.tag
  tag_at f g c = c.new_same.tag ∙ c.along.tag ∙ sym c.old_same.tag

  pub results_at : (f g : Frame) → AlongAt p q m l f g → g.results ≡ f.results
  results_at f g c = c.new_same.results ∙ c.along.results ∙ sym c.old_same.results

  pub back_at : (a b f g : Frame) → AlongAt p q m l a b → AlongAt p q m l f g → AlongAt p q m l (back a f) (back b g)
  back_at a b f g d c = record {
    old = back d.old c.old;
    new = back d.new c.new;
    old_same = same_back p d.old a c.old f d.old_same c.old_same;
    new_same = same_back q d.new b c.new g d.new_same c.new_same;
    along = back_along m l d.old d.new c.old c.new d.along c.along;
  }

  pub under_tag : (f g : Frame) → AlongAt p q m l f g → (x y : Stands) → y ≡ x → AlongAt p q m l (record f { tag = x }) (record g { tag = y })
  under_tag f g c x y e = record {
    old = record (c.old) { tag = x };
    new = record (c.new) { tag = y };
    old_same = same_tag p c.old f c.old_same x;
    new_same = same_tag q c.new g c.new_same y;
    along = tag_along m l c.old c.new c.along x y e;
  }

  pub signature_at : (f g : Frame) → AlongAt p q m l f g → (x : Part) → Named l x → AlongAt p q m l (behind_signature (Some x) f) (behind_signature (Some (elsewhere.placed m x)) g)
  signature_at f g c x n = record {
    old = behind_signature (Some x) c.old;
    new = behind_signature (Some (elsewhere.placed m x)) c.new;
    old_same = same_signature p c.old f c.old_same (Some x);
    new_same = same_signature q c.new g c.new_same (Some (elsewhere.placed m x));
    along = signature_along m l c.old c.new c.along (Some x) (n, tt);
  }

  pub unsourced_at : (f g : Frame) → AlongAt p q m l f g → AlongAt p q m l (unsourced f) (unsourced g)
  unsourced_at f g c = record {
    old = unsourced c.old;
    new = unsourced c.new;
    old_same = same_unsourced p c.old f c.old_same;
    new_same = same_unsourced q c.new g c.new_same;
    along = source_along m l c.old c.new c.along None None refl tt;
  }
