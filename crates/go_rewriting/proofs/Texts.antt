-- A text stands also where the same tokens stand, with the one behind it; and files with changes and a declaration more.
use Rattle.std.proofs.Common.{◌≡◌, ℕ, suc, ◌+◌, ◌<◌, ◌≤◌, ◌⊎◌, inl, inr, max, true, List, refl, sym, ap, ◌∙◌, subst, length, arith}
use Rattle.std.specs.Prelude.{slice_get, ◌++◌}
use Rattle.std.proofs.lemmas.List.{length-append}
use Rattle.std.proofs.lemmas.Option.{slice_get_past}
use Rattle.go_tokens.specs.declared.token.TokenKind.{TokenKind}
use Rattle.go_tokens.specs.declared.token.TokenKind.TheVariants as token
use Rattle.go_grammar.specs.declared.kind.Category.{Category}
use Rattle.go_grammar.specs.declared.kind.Category.TheVariants as category
use Rattle.go_grammar.specs.Rules.{Items, item}
use Rattle.go_grammar.specs.Trees.{Tree, node, Trees, none, more, skip, first, last, depth, depths, weight}
use Rattle.go_grammar.specs.Grammar.{IsAt, Derives, Between, Gap, IsFile}
use Rattle.go_grammar.proofs.Public.{gap_order, between_order, derives_order, lies_within}
use Rattle.go_rewriting.specs.Replacing.{Run}
use Rattle.go_rewriting.specs.Places.{Patch, carry, carries, become, places, Outside, Ascending, agreed, Fits, Change, changed, moved_by, ranges, with_declaration}
use Rattle.go_rewriting.specs.Sites.{Site, patch_of, site_ranges, AllSit}
use Rattle.go_rewriting.proofs.Appended.{appended}
use Rattle.go_rewriting.proofs.Changes.{get_left, get_right, change_stays, change_end, move_start}
use Rattle.go_rewriting.proofs.Kept.{Stay, Soft, narrow, soft_same, part_kept, derives_kept, gap_kept, between_kept, first_carry, last_carry}
use Rattle.go_rewriting.proofs.Order.{derives_ordered, places_within}
use Rattle.go_rewriting.proofs.Places.{Text, became_text}
use Rattle.go_rewriting.proofs.Sites.{sites_fit, sites_out}

pub run_order : (ts : List TokenKind) (l : Items) (new : Trees) (a b : ℕ) → Run ts l new a b → a ≤ b
run_order ts l none a b r = absurd r
run_order ts l (skip ps) a b r = absurd r
run_order ts l (more p none) a b r = omega (arith, r.0, r.2, derives_order ts p (item l) r.1)
run_order ts l (more p (skip qs)) a b r = absurd r
run_order ts l (more p (more q qs)) a b r = omega (arith, r.0, derives_order ts p (item l) r.1, between_order ts l (last p) r.2 r.3, gap_order ts l r.2 (first q) r.4, run_order ts l (more q qs) (first q) b r.5)

module _ (us ts : List TokenKind) (m : ℕ → ℕ) where
  run_kept : (l : Items) (new : Trees) (a b : ℕ) → Stay us ts m a b → Soft us ts m b → Run us l new a b → Run ts l (carries m new) (m a) (m b)
  run_kept l none a b st soft r = absurd r
  run_kept l (skip ps) a b st soft r = absurd r
  run_kept l (more p none) a b st soft r = (first_carry m p ∙ ap m r.0, part_kept us ts m p (item l) a b st soft (omega (arith, r.0)) (omega (arith, r.2)) r.1, last_carry m p ∙ ap m r.2)
  run_kept l (more p (skip qs)) a b st soft r = absurd r
  run_kept l (more p (more q qs)) a b st soft r =
      let in_p : first p ≤ last p = derives_order us p (item l) r.1 in
      let on : last p ≤ r.2 = between_order us l (last p) r.2 r.3 in
      let in_g : r.2 ≤ first q = gap_order us l r.2 (first q) r.4 in
      let off : first q ≤ b = run_order us l (more q qs) (first q) b r.5 in
      let between : Between ts l (m (last p)) (m r.2) = between_kept us ts m l (last p) r.2 (narrow us ts m a b (last p) r.2 st (omega (arith, r.0, in_p)) (omega (arith, in_g, off))) r.3 in
      let gap : Gap ts l (m r.2) (m (first q)) = gap_kept us ts m l r.2 (first q) (narrow us ts m a b r.2 (first q) st (omega (arith, r.0, in_p, on)) off) r.4 in
      let rest : Run ts l (carries m (more q qs)) (m (first q)) (m b) = run_kept l (more q qs) (first q) b (narrow us ts m a b (first q) b st (omega (arith, r.0, in_p, on, in_g)) (omega arith)) soft r.5 in (
        first_carry m p ∙ ap m r.0,
        part_kept us ts m p (item l) a b st soft (omega (arith, r.0)) (omega (arith, on, in_g, off)) r.1,
        m r.2,
        subst (λ n. Between ts l n (m r.2)) (sym (last_carry m p)) between,
        subst (λ n. Gap ts l (m r.2) n) (sym (first_carry m q)) gap,
        subst (λ n. Run ts l (carries m (more q qs)) n (m b)) (sym (first_carry m q)) rest,
      )

pub placed_text : (us ts : List TokenKind) (i : ℕ) (c : Category) (s : Tree) → Derives us c s → ((n : ℕ) → first s ≤ n → n ≤ last s → slice_get ts (i + n) ≡ slice_get us n) → Derives ts c (carry (λ n. i + n) s)
placed_text us ts i c s h same =
    let in_s : first s ≤ last s = derives_order us s c h in
    derives_kept us ts (λ n. i + n) s c (λ n lo hi. record { same = same n lo (omega (arith, hi)); next = omega arith }) (soft_same us ts (λ n. i + n) (last s) (same (last s) in_s (omega arith))) h

pub placed_run : (us ts : List TokenKind) (i : ℕ) (l : Items) (new : Trees) (a b : ℕ) → Run us l new a b → ((n : ℕ) → a ≤ n → n ≤ b → slice_get ts (i + n) ≡ slice_get us n) → Run ts l (carries (λ n. i + n) new) (i + a) (i + b)
placed_run us ts i l new a b r same =
    run_kept us ts (λ n. i + n) l new a b (λ n lo hi. record { same = same n lo (omega (arith, hi)); next = omega arith }) (soft_same us ts (λ n. i + n) b (same b (run_order us l new a b r) (omega arith))) r

mutual
  pub depth_carry : (m : ℕ → ℕ) (t : Tree) → depth (carry m t) ≡ depth t
  depth_carry m (node k a b ps) = ap (λ n. weight k + n) (depths_carry m ps)

  pub depths_carry : (m : ℕ → ℕ) (ps : Trees) → depths (carries m ps) ≡ depths ps
  depths_carry m none = refl
  depths_carry m (more p ps) = ap (λ n. max n (depths (carries m ps))) (depth_carry m p) ∙ ap (λ n. max (depth p) n) (depths_carry m ps)
  depths_carry m (skip ps) = depths_carry m ps

-- the changes are in the places of the patch
module _ (ts : List TokenKind) (xs : List Change) (c : Category) (t : Tree) (q : Patch) (h : Derives ts c t) (ascend : Ascending 0 (ranges xs) (length ts)) (among : (n : ℕ) → Outside n (places t q) → Outside n (ranges xs)) where
  apart : (i k : ℕ) → i ≤ k → (i ≡ k) ⊎ (i < k)
  apart i k le = grind arith

  -- what stands behind the tree
  pub behind : slice_get (changed xs ts) (moved_by xs (last t)) ≡ slice_get ts (last t)
  behind = elim (apart (last t) (length ts) (lies_within ts c t h).1) [
    | inl same ↦
        let to : moved_by xs (last t) ≡ length (changed xs ts) = ap (moved_by xs) same ∙ change_end ts xs 0 ascend in
        slice_get_past (changed xs ts) (moved_by xs (last t)) (omega (arith, to)) ∙ sym (slice_get_past ts (last t) (omega (arith, same)))
    | inr lt ↦ (change_stays ts xs 0 (last t) ascend (among (last t) (places_within q t (last t) (derives_ordered ts t c h) (inr (omega arith))))).same
  ]

  pub changed_text : Fits ts (changed xs ts) (moved_by xs) c t q → agreed (moved_by xs) t q ≡ true → Text ts (changed xs ts) (moved_by xs) c t (become (moved_by xs) t q)
  changed_text f y = became_text ts (changed xs ts) (moved_by xs) c t q h f y (λ n lo hi out. change_stays ts xs 0 n ascend (among n out)) behind

  changed_derives : Fits ts (changed xs ts) (moved_by xs) c t q → agreed (moved_by xs) t q ≡ true → Derives (changed xs ts) c (become (moved_by xs) t q)
  changed_derives f y = (changed_text f y).derives

changed_is_file : (ts : List TokenKind) (xs : List Change) (t : Tree) (q : Patch) → IsFile ts t → Ascending 0 (ranges xs) (length ts) → ((n : ℕ) → Outside n (places t q) → Outside n (ranges xs)) → Fits ts (changed xs ts) (moved_by xs) category.File t q → agreed (moved_by xs) t q ≡ true → depth (become (moved_by xs) t q) ≤ 101 → IsFile (changed xs ts) (become (moved_by xs) t q)
changed_is_file ts xs t q h ascend among f y low =
    let text = changed_text ts xs category.File t q h.derives ascend among f y in
    record {
      derives = text.derives;
      begins = text.begins ∙ ap (moved_by xs) h.begins ∙ move_start xs;
      ends = text.finishes ∙ ap (moved_by xs) h.ends ∙ change_end ts xs 0 ascend;
      shallow = low;
    }

-- where each is found by a path
pub sites_among : (ts us : List TokenKind) (m : ℕ → ℕ) (xs : List Change) (c : Category) (t : Tree) (ss : List Site) → Derives ts c t → ranges xs ≡ site_ranges t ss → Ascending 0 (ranges xs) (length ts) → AllSit ts us m c t ss → (n : ℕ) → Outside n (places t (patch_of ss)) → Outside n (ranges xs)
sites_among ts us m xs c t ss h at ascend sit n out = subst (Outside n) (sym at) (sites_out ts us m c t ss 0 (length ts) n (derives_ordered ts t c h) sit (subst (λ rs. Ascending 0 rs (length ts)) at ascend) out)

-- Where a token stands behind the tree, and no more, it does so behind the new one too.
pub record Ended (us : List TokenKind) (c : Category) (t : Tree) (w : TokenKind) : Type 0 where
  pub derives : Derives us c t
  pub begins : first t ≡ 0
  pub closed : IsAt us (last t) w
  pub all : length us ≡ suc (last t)

pub sites_ended : (ts : List TokenKind) (xs : List Change) (c : Category) (t : Tree) (ss : List Site) (w : TokenKind) → Ended ts c t w → ranges xs ≡ site_ranges t ss → Ascending 0 (ranges xs) (length ts) → AllSit ts (changed xs ts) (moved_by xs) c t ss → agreed (moved_by xs) t (patch_of ss) ≡ true → Ended (changed xs ts) c (become (moved_by xs) t (patch_of ss)) w
sites_ended ts xs c t ss w h at ascend sit y =
    let among : (n : ℕ) → Outside n (places t (patch_of ss)) → Outside n (ranges xs) = sites_among ts (changed xs ts) (moved_by xs) xs c t ss h.derives at ascend sit in
    let text = changed_text ts xs c t (patch_of ss) h.derives ascend among (sites_fit ts (changed xs ts) (moved_by xs) c t ss sit) y in
    let stays = change_stays ts xs 0 (last t) ascend (among (last t) (places_within (patch_of ss) t (last t) (derives_ordered ts t c h.derives) (inr (omega arith)))) in
    let end : moved_by xs (length ts) ≡ moved_by xs (suc (last t)) = ap (moved_by xs) h.all in
    record {
      derives = text.derives;
      begins = text.begins ∙ ap (moved_by xs) h.begins ∙ move_start xs;
      closed = ap (slice_get (changed xs ts)) text.finishes ∙ stays.same ∙ h.closed;
      all = omega (arith, end, stays.next, change_end ts xs 0 ascend, text.finishes);
    }

pub sites_changed : (ts : List TokenKind) (xs : List Change) (c : Category) (t : Tree) (ss : List Site) → Derives ts c t → ranges xs ≡ site_ranges t ss → Ascending 0 (ranges xs) (length ts) → AllSit ts (changed xs ts) (moved_by xs) c t ss → agreed (moved_by xs) t (patch_of ss) ≡ true → Derives (changed xs ts) c (become (moved_by xs) t (patch_of ss))
sites_changed ts xs c t ss h at ascend sit y = changed_derives ts xs c t (patch_of ss) h ascend (sites_among ts (changed xs ts) (moved_by xs) xs c t ss h at ascend sit) (sites_fit ts (changed xs ts) (moved_by xs) c t ss sit) y

pub file_sites_changed : (ts : List TokenKind) (xs : List Change) (t : Tree) (ss : List Site) → IsFile ts t → ranges xs ≡ site_ranges t ss → Ascending 0 (ranges xs) (length ts) → AllSit ts (changed xs ts) (moved_by xs) category.File t ss → agreed (moved_by xs) t (patch_of ss) ≡ true → depth (become (moved_by xs) t (patch_of ss)) ≤ 101 → IsFile (changed xs ts) (become (moved_by xs) t (patch_of ss))
file_sites_changed ts xs t ss h at ascend sit y low = changed_is_file ts xs t (patch_of ss) h ascend (sites_among ts (changed xs ts) (moved_by xs) xs category.File t ss h.derives at ascend sit) (sites_fit ts (changed xs ts) (moved_by xs) category.File t ss sit) y low

pub with_one_more : (ts ws : List TokenKind) (t d : Tree) → IsFile ts t → Derives ws category.Declaration d → first d ≡ 0 → IsAt ws (last d) token.Semicolon → length ws ≡ suc (last d) → depth d ≤ 100 → IsFile (ts ++ ws) (with_declaration t (carry (λ n. length ts + n) d) (length (ts ++ ws)))
with_one_more ts ws (node k a b ps) d h is begins closed all low =
    let to : b ≡ length ts = h.ends in
    let e : Tree = carry (λ n. length ts + n) d in
    let to_e : last e ≡ length ts + last d = last_carry (λ n. length ts + n) d in
    let from_e : first e ≡ length ts + first d = first_carry (λ n. length ts + n) d in
    appended ts (ts ++ ws) k a ps e (subst (λ n. IsFile ts (node k a n ps)) to h)
    (λ n lt. get_left ts ws n lt)
    (placed_text ws (ts ++ ws) (length ts) category.Declaration d is (λ n lo hi. get_right ts ws n))
    (omega (arith, from_e, begins))
    (ap (slice_get (ts ++ ws)) to_e ∙ get_right ts ws (last d) ∙ closed)
    (omega (arith, length-append ts ws, to_e, all))
    (omega (arith, depth_carry (λ n. length ts + n) d, low))
