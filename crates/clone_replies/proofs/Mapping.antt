-- The hashes of windows of functions over other words for types.
use mathlib.Core.Path.{fun_ext}
use Rattle.std.proofs.Common.{◌≡◌, ◌∙◌, ℕ, List, map, ap, slice_get}
use Rattle.go_typed.specs.declared.window.Window.{Window}
use Rattle.go_typed.specs.Trees.{Sort, Typeds, sort_mapped}
use Rattle.clone_window.specs.declared.bounds.Bounds.{Bounds}
use Rattle.clone_window.specs.declared.outline.Outline.{Outline}
use Rattle.clone_window.specs.Sameness.{sort_at}
use Rattle.clone_window.specs.Bodies.{Body, locals_in, statements_at}
use Rattle.clone_classes.specs.Listing.{windows_of_all}
use Rattle.clone_replies.proofs.Mapped.{body-mapped, statements-at-mapped, all-windows-mapped}
use Rattle.clone_replies.proofs.Tested.{sort-at-mapped, locals-in-mapped}
use Rattle.alpha_hash_defs.specs.Naming.{Naming}
use Rattle.alpha_hash_defs.specs.Numbers.{hash}
use Rattle.clone_replies.proofs.Words.{Matches, hash-same}

-- what names a package
pub record Names (T : Type 0) : Type 0 where
  pub type_text : T → List ℕ
  pub object_text : Outline → List ℕ
  pub field_text : T → ℕ → List ℕ

abbrev pub naming_by : {T : Type 0} → Names T → List (Sort T) → Naming T
naming_by names sorts = record { type_text = names.type_text; object_text = names.object_text; field_text = names.field_text; local_sort = sort_at sorts }

abbrev pub hash_by : {T : Type 0} → Names T → List (Body T) → Window → ℕ
hash_by names bodies w = hash (naming_by names (locals_in (slice_get bodies w.func))) (statements_at (slice_get bodies w.func) w)

abbrev pub hashes_by : {T : Type 0} → Names T → Bounds → List (Body T) → List ℕ
hashes_by names bounds bodies = map (hash_by names bodies) (windows_of_all bounds 0 bodies)

-- The second names what the first does.
pub record Agree {T U : Type 0} (g : T → U) (n : Names T) (m : Names U) : Type 0 where
  pub types : (t : T) → m.type_text (g t) ≡ n.type_text t
  pub objects : (o : Outline) → m.object_text o ≡ n.object_text o
  pub fields : (t : T) (k : ℕ) → m.field_text (g t) k ≡ n.field_text t k

module _ {T U : Type 0} (g : T → U) (n : Names T) (m : Names U) (h : Agree g n m) where
  matching : (sorts : List (Sort T)) → Matches g (naming_by n sorts) (naming_by m (map (sort_mapped g) sorts))
  matching sorts = record { types = h.types; objects = h.objects; fields = h.fields; locals = sort-at-mapped g sorts }

  abbrev hashed : List (Sort U) → Typeds U → ℕ
  hashed sorts ps = hash (naming_by m sorts) ps

  hash-mapped : (bodies : List (Body T)) (w : Window) → hash_by m (map (body-mapped g) bodies) w ≡ hash_by n bodies w
  hash-mapped bodies w =
      let sorts = locals_in (slice_get bodies w.func) in
      ap (λ ss. hashed ss (statements_at (slice_get (map (body-mapped g) bodies) w.func) w)) (locals-in-mapped g bodies w.func)
      ∙ ap (hashed (map (sort_mapped g) sorts)) (statements-at-mapped g bodies w)
      ∙ hash-same g (naming_by n sorts) (naming_by m (map (sort_mapped g) sorts)) (matching sorts) (statements_at (slice_get bodies w.func) w)

  pub hashes-mapped : (bounds : Bounds) (bodies : List (Body T)) → hashes_by m bounds (map (body-mapped g) bodies) ≡ hashes_by n bounds bodies
  hashes-mapped bounds bodies =
      ap (λ (f : Window → ℕ). map f (windows_of_all bounds 0 (map (body-mapped g) bodies))) (fun_ext (hash-mapped bodies))
      ∙ ap (map (hash_by n bodies)) (all-windows-mapped g bounds 0 bodies)
