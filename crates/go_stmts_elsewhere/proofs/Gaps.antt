-- Statement lists in which other statements take the place of some.
use Rattle.std.proofs.Common.{◌≡◌, ◌∙◌, [], ◌∷◌, ◌++◌, Some, None, refl, sym, ap, subst}
use Rattle.std.proofs.lemmas.List.{append_assoc, append-nil}
use Rattle.go_grammar.specs.declared.kind.Kind.TheVariants as kind
use Rattle.go_grammar.specs.Trees.{Trees, none, more, skip, onto}
use Rattle.go_rewriting.specs.Places.{carries}
use Rattle.go_exprs_rules.specs.Scopes.{Hint, value}
use Rattle.go_exprs_rules.specs.Settling.{Part}
use Rattle.go_exprs_rules.specs.Tables.{Parts}
use Rattle.go_stmts_defs.specs.Frames.{Frame}
use Rattle.go_stmts_defs.specs.Reading.{Found, Reading, read, Readings, all_read, after, reading, readings}
use Rattle.go_exprs_elsewhere.specs.Elsewhere.{Moves}
use Rattle.go_stmts_elsewhere.specs.Frames.{parts_placed, faults_placed}
use Rattle.go_stmts_elsewhere.specs.Gaps.{run, parts_in, found_in, frame_in, behind, fronted, RunAlong, GapRead}

-- and then these statements
abbrev followed : Readings → Trees → Readings
followed (all_read xs fs s) ts = fronted xs fs (run s ts)

nothing_fronted : (r : Readings) → fronted [] [] r ≡ r
nothing_fronted (all_read ys gs s) = refl

fronted_twice : (xs ys : Parts) (fs gs : Found) (r : Readings) → fronted (xs ++ ys) (fs ++ gs) r ≡ fronted xs fs (fronted ys gs r)
fronted_twice xs ys fs gs (all_read zs hs s) = ap (λ us. all_read us (fs ++ gs ++ hs) s) (append_assoc xs ys zs) ∙ ap (λ vs. all_read (xs ++ (ys ++ zs)) vs s) (append_assoc fs gs hs)

after_fronted : (r : Reading) (xs : Parts) (fs : Found) (n o : Part → Found → Frame → Readings) → ((x : Part) (gs : Found) (u : Frame) → n x gs u ≡ fronted xs fs (o x gs u)) → after r n ≡ fronted xs fs (after r o)
after_fronted (read x gs u) xs fs n o e = e x gs u

after_followed : (r : Reading) (ts : Trees) (n o : Part → Found → Frame → Readings) → ((x : Part) (gs : Found) (u : Frame) → n x gs u ≡ followed (o x gs u) ts) → after r n ≡ followed (after r o) ts
after_followed (read x gs u) ts n o e = e x gs u

-- A block's statements are read whatever stands in front of them.
pub apart : (s : Frame) (h : Hint) (all : Trees) (xs : Parts) (fs : Found) (ts : Trees) → readings s kind.Block h all xs fs ts ≡ fronted xs fs (run s ts)
apart s h all xs fs none = ap (λ us. all_read us fs s) (sym (append-nil xs)) ∙ ap (λ vs. all_read (xs ++ []) vs s) (sym (append-nil fs))
apart s h all xs fs (skip ts) =
    apart s h all (xs ++ None ∷ []) (fs ++ []) ts ∙ fronted_twice xs (None ∷ []) fs [] (run s ts) ∙ ap (fronted xs fs) (sym (apart s value none (None ∷ []) [] ts))
apart s h all xs fs (more t ts) =
    after_fronted (reading s value t) xs fs (λ x gs u. readings u kind.Block h all (xs ++ Some x ∷ []) (fs ++ gs) ts) (λ x gs u. readings u kind.Block value none (Some x ∷ []) gs ts)
    (λ x gs u. apart u h all (xs ++ Some x ∷ []) (fs ++ gs) ts ∙ fronted_twice xs (Some x ∷ []) fs gs (run u ts) ∙ ap (fronted xs fs) (sym (apart u value none (Some x ∷ []) gs ts)))

fronted_followed : (xs : Parts) (fs : Found) (r : Readings) (ts : Trees) → followed (fronted xs fs r) ts ≡ fronted xs fs (followed r ts)
fronted_followed xs fs (all_read ys gs s) ts = fronted_twice xs ys fs gs (run s ts)

-- One run behind another.
joined : (s : Frame) (ts us : Trees) → run s (onto ts us) ≡ followed (run s ts) us
joined s none us = sym (nothing_fronted (run s us))
joined s (skip ts) us =
    apart s value none (None ∷ []) [] (onto ts us) ∙ ap (fronted (None ∷ []) []) (joined s ts us) ∙ sym (fronted_followed (None ∷ []) [] (run s ts) us)
    ∙ ap (λ r. followed r us) (sym (apart s value none (None ∷ []) [] ts))
joined s (more t ts) us =
    after_followed (reading s value t) us (λ x gs u. readings u kind.Block value none (Some x ∷ []) gs (onto ts us)) (λ x gs u. readings u kind.Block value none (Some x ∷ []) gs ts)
    (λ x gs u. apart u value none (Some x ∷ []) gs (onto ts us) ∙ ap (fronted (Some x ∷ []) gs) (joined u ts us) ∙ sym (fronted_followed (Some x ∷ []) gs (run u ts) us)
    ∙ ap (λ r. followed r us) (sym (apart u value none (Some x ∷ []) gs ts)))

-- A run of statements in front of others in a list.
followed_as : (r : Readings) (ts : Trees) → followed r ts ≡ fronted (parts_in r) (found_in r) (run (frame_in r) ts)
followed_as (all_read xs fs s) ts = refl

pub run_first : (s : Frame) (xs : Parts) (fs : Found) (ts us : Trees)
    → fronted xs fs (run s (onto ts us)) ≡ fronted (xs ++ parts_in (run s ts)) (fs ++ found_in (run s ts)) (run (behind s ts) us)
run_first s xs fs ts us =
    ap (fronted xs fs) (joined s ts us ∙ followed_as (run s ts) us) ∙ sym (fronted_twice xs (parts_in (run s ts)) fs (found_in (run s ts)) (run (behind s ts) us))

-- ---- what is read of a list in three runs

parts_followed : (r : Readings) (ts : Trees) → parts_in (followed r ts) ≡ parts_in r ++ parts_in (run (frame_in r) ts)
parts_followed (all_read xs fs s) ts = by (run s ts)
  where
    by : (r : Readings) → parts_in (fronted xs fs r) ≡ xs ++ parts_in r
    by (all_read ys gs t) = refl

found_followed : (r : Readings) (ts : Trees) → found_in (followed r ts) ≡ found_in r ++ found_in (run (frame_in r) ts)
found_followed (all_read xs fs s) ts = by (run s ts)
  where
    by : (r : Readings) → found_in (fronted xs fs r) ≡ fs ++ found_in r
    by (all_read ys gs t) = refl

frame_followed : (r : Readings) (ts : Trees) → frame_in (followed r ts) ≡ frame_in (run (frame_in r) ts)
frame_followed (all_read xs fs s) ts = by (run s ts)
  where
    by : (r : Readings) → frame_in (fronted xs fs r) ≡ frame_in r
    by (all_read ys gs t) = refl

parts_joined : (s : Frame) (ts us : Trees) → parts_in (run s (onto ts us)) ≡ parts_in (run s ts) ++ parts_in (run (behind s ts) us)
parts_joined s ts us = ap parts_in (joined s ts us) ∙ parts_followed (run s ts) us

found_joined : (s : Frame) (ts us : Trees) → found_in (run s (onto ts us)) ≡ found_in (run s ts) ++ found_in (run (behind s ts) us)
found_joined s ts us = ap found_in (joined s ts us) ∙ found_followed (run s ts) us

behind_joined : (s : Frame) (ts us : Trees) → behind s (onto ts us) ≡ behind (behind s ts) us
behind_joined s ts us = ap frame_in (joined s ts us) ∙ frame_followed (run s ts) us

three_parts : (s : Frame) (ts us vs : Trees) → parts_in (run s (onto ts (onto us vs))) ≡ parts_in (run s ts) ++ (parts_in (run (behind s ts) us) ++ parts_in (run (behind (behind s ts) us) vs))
three_parts s ts us vs = parts_joined s ts (onto us vs) ∙ ap (λ ys. parts_in (run s ts) ++ ys) (parts_joined (behind s ts) us vs)

three_found : (s : Frame) (ts us vs : Trees) → found_in (run s (onto ts (onto us vs))) ≡ found_in (run s ts) ++ (found_in (run (behind s ts) us) ++ found_in (run (behind (behind s ts) us) vs))
three_found s ts us vs = found_joined s ts (onto us vs) ∙ ap (λ ys. found_in (run s ts) ++ ys) (found_joined (behind s ts) us vs)

three_behind : (s : Frame) (ts us vs : Trees) → behind s (onto ts (onto us vs)) ≡ behind (behind (behind s ts) us) vs
three_behind s ts us vs = behind_joined s ts (onto us vs) ∙ behind_joined (behind s ts) us vs

-- What is in front and behind is read the same, given that Q relates the frames in front of the gap and R those behind it.
pub gap_read : (m : Moves) (Q R : Frame → Frame → Type 0) (f g : Frame) (front old new rest : Trees) → RunAlong m Q f g front
    → RunAlong m R (behind (behind f front) old) (behind (behind g (carries m.token front)) new) rest → GapRead m R f g front old new rest
gap_read m Q R f g front old new rest a b =
    let f2 = behind (behind f front) old in
    let g1 = behind g (carries m.token front) in
    let tail = carries m.token rest in
    record {
      before = three_parts f front old rest;
      read = three_parts g (carries m.token front) new tail
          ∙ ap (λ ys. ys ++ (parts_in (run g1 new) ++ parts_in (run (behind g1 new) tail))) a.read
          ∙ ap (λ ys. parts_placed m (parts_in (run f front)) ++ (parts_in (run g1 new) ++ ys)) b.read;
      found = three_found g (carries m.token front) new tail
          ∙ ap (λ ys. ys ++ (found_in (run g1 new) ++ found_in (run (behind g1 new) tail))) a.found
          ∙ ap (λ ys. faults_placed m (found_in (run f front)) ++ (found_in (run g1 new) ++ ys)) b.found;
      frames = subst (λ z. R z (behind g (onto (carries m.token front) (onto new tail)))) (sym (three_behind f front old rest))
          (subst (λ z. R (behind f2 rest) z) (sym (three_behind g (carries m.token front) new tail)) b.frames);
    }
