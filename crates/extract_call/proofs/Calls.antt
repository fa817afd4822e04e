-- What a gap does, and the body of the function that it calls, at each state.
use Rattle.std.proofs.Common.{◌≡◌, ℕ, List, [], ◌∷◌, ◌++◌, refl, sym, ap, ◌∙◌, drop, take, length, Option}
use Rattle.std.specs.Prelude.{Bool, slice_set, replicate}
use Rattle.go_types.specs.Trees.{TypeTree}
use Rattle.go_types.specs.Relations.{Rights}
use Rattle.go_types_relations.specs.Zeros.{Zero}
use Rattle.go_typed.specs.declared.form.Form.{Form}
use Rattle.go_typed.specs.Trees.{Label, Typed, typed, Typeds, none, more, skip}
use Rattle.go_meaning.specs.Values.{Value, Function, nth, zero_value}
use Rattle.go_meaning.specs.Computations.{World, Next, Return, Break, Continue, Fallthrough, Panics, Outcome, Ends, Undecided, go_on, leave, Comp, end_by, give, then_do, read, write, each, in_order}
use Rattle.go_meaning.specs.Operations.{Drop, operate}
use Rattle.go_meaning.specs.Plans.{Plan, Give, Local, Declare, Ignore, Perform, Apply, AssignTo, ZeroTo, Returns, Sequence, Once}
use Rattle.go_meaning.specs.Doings.{Doing, absent, values_of, finds_of, stores, assigned, applied, act, doing_of}
use Rattle.go_meaning.specs.Planning.{plan}
use Rattle.go_meaning.specs.Meaning.{turned, meaning, meanings}
use Rattle.go_meaning_simulation.specs.Links.{joined}
use Rattle.extract_call.specs.Calls.{Argument, arguments, results, stored, Fresh, ready, AreArguments, no_arguments, passed, given, IsCall, calls, AreTargets, source, into, dropped, IsGap, alone, assigns, declares, IsTail, returns_call, call_then_return, all_passed, IsReturn, no_return, gives_back, IsBody, body}
use Rattle.extract_call.specs.Laws.{kept}
use Rattle.std.proofs.Common.{append-nil as append_nil}
use Rattle.go_meaning_simulation.proofs.Public.{in_order_joined, values_joined, go_on_twice, go_on_same, go_on_gives}

module _ (rights : Rights) (call : ℕ → List Value → Comp) (later : Typed TypeTree → Comp) where
  abbrev does : Typed TypeTree → Doing
  does t = meaning rights call later t

  abbrev all_do : Typeds TypeTree → List Doing
  all_do ts = meanings rights call later ts

  planned : (f : Form) (i j : ℕ) (e : Label TypeTree) (ps : Typeds TypeTree) (p : Plan) → plan rights f e ps ≡ Once p → does (typed f i j e ps) ≡ act call p (all_do ps)
  planned f i j e ps p eq = ap (λ c. doing_of call (later (typed f i j e (turned f ps))) c (all_do ps)) eq

  arguments_run : {xs : List Argument} {ts : Typeds TypeTree} → AreArguments rights xs ts → (k : List Value → Comp) (d : ℕ) (f : List Value) (w : World) (t : ℕ) → each (values_of (all_do ts)) k d f w t ≡ k (arguments f xs) d f w t
  unfolding act each then_do read end_by
  arguments_run no_arguments k d f w t = refl
  arguments_run (passed {n = n} {i = i} {j = j} {f = g} {e = e} {ps = ps} {ts = ts} eq h) k d f w t =
      ap (λ x. go_on (x.value d f w t) (λ us f1 w1 t1. each (values_of (all_do ts)) (λ vs. k (us ++ vs)) d f1 w1 t1)) (planned g i j e ps (Local n) eq)
      ∙ arguments_run h (λ vs. k (nth f n ∷ vs)) d f w t
  arguments_run (given {v = v} {i = i} {j = j} {f = g} {e = e} {ps = ps} {ts = ts} eq h) k d f w t =
      ap (λ x. go_on (x.value d f w t) (λ us f1 w1 t1. each (values_of (all_do ts)) (λ vs. k (us ++ vs)) d f1 w1 t1)) (planned g i j e ps (Give v) eq)
      ∙ arguments_run h (λ vs. k (v ∷ vs)) d f w t

  call_runs : {h : ℕ} {xs : List Argument} {t : Typed TypeTree} → IsCall rights h xs t → (d : ℕ) (f : List Value) (w : World) (n : ℕ) → (does t).value d f w n ≡ call h (arguments f xs) d f w n
  unfolding act each then_do end_by
  call_runs {h = h} {xs = xs} (calls {f = f0} {g = g} {i = i} {j = j} {a = a} {b = b} {e = e} {c = c} {ps = ps} {ts = ts} eq eq' hs) d f w n =
      ap (λ x. x.value d f w n) (planned f0 i j e (more (typed g a b c ps) ts) Apply eq)
      ∙ ap (λ x. go_on (x.value d f w n) (λ us f1 w1 t1. each (values_of (all_do ts)) (λ vs. applied call (nth (us ++ vs) 0) (drop 1 (us ++ vs))) d f1 w1 t1)) (planned g a b c ps (Give (Function h)) eq')
      ∙ arguments_run hs (λ vs. call h vs) d f w n

  -- ---- assignments

  targets_found : {h : ℕ} {xs : List Argument} {os : List (Option ℕ)} {ts : Typeds TypeTree} → AreTargets rights h xs os ts → (k : List Value → Comp) (d : ℕ) (f : List Value) (w : World) (n : ℕ) → each (finds_of (take (length os) (all_do ts))) k d f w n ≡ k [] d f w n
  unfolding act each then_do end_by
  targets_found (source h) k d f w n = refl
  targets_found (into {os = os} {n = m} {i = i} {j = j} {f = g} {e = e} {ps = ps} {ts = ts} eq hs) k d f w n =
      ap (λ x. go_on (x.find d f w n) (λ us f1 w1 t1. each (finds_of (take (length os) (all_do ts))) (λ vs. k (us ++ vs)) d f1 w1 t1)) (planned g i j e ps (Local m) eq)
      ∙ targets_found hs k d f w n
  targets_found (dropped {os = os} {i = i} {j = j} {f = g} {e = e} {ps = ps} {ts = ts} eq hs) k d f w n =
      ap (λ x. go_on (x.find d f w n) (λ us f1 w1 t1. each (finds_of (take (length os) (all_do ts))) (λ vs. k (us ++ vs)) d f1 w1 t1)) (planned g i j e ps Ignore eq)
      ∙ targets_found hs k d f w n

  targets_store : {h : ℕ} {xs : List Argument} {os : List (Option ℕ)} {ts : Typeds TypeTree} → AreTargets rights h xs os ts → (vs : List Value) (d : ℕ) (f : List Value) (w : World) (n : ℕ) → stores (take (length os) (all_do ts)) [] vs d f w n ≡ Ends (Next []) (stored os vs f) w n
  unfolding act stores then_do write end_by
  targets_store (source h) vs d f w n = refl
  targets_store (into {os = os} {n = m} {i = i} {j = j} {f = g} {e = e} {ps = ps} {ts = ts} eq hs) vs d f w n =
      ap (λ x. go_on (x.store (take x.width []) (nth vs 0) d f w n) (λ no f1 w1 t1. stores (take (length os) (all_do ts)) (drop x.width []) (drop 1 vs) d f1 w1 t1)) (planned g i j e ps (Local m) eq)
      ∙ targets_store hs (drop 1 vs) d (slice_set f m (nth vs 0)) w n
  targets_store (dropped {os = os} {i = i} {j = j} {f = g} {e = e} {ps = ps} {ts = ts} eq hs) vs d f w n =
      ap (λ x. go_on (x.store (take x.width []) (nth vs 0) d f w n) (λ no f1 w1 t1. stores (take (length os) (all_do ts)) (drop x.width []) (drop 1 vs) d f1 w1 t1)) (planned g i j e ps Ignore eq)
      ∙ targets_store hs (drop 1 vs) d f w n

  call_gives : {h : ℕ} {xs : List Argument} {os : List (Option ℕ)} {ts : Typeds TypeTree} → AreTargets rights h xs os ts → (d : ℕ) (f : List Value) (w : World) (n : ℕ) → each (values_of (drop (length os) (all_do ts))) give d f w n ≡ call h (arguments f xs) d f w n
  unfolding each then_do end_by
  call_gives {h = h} {xs = xs} (source {t = t} c) d f w n =
      ap (λ oc. go_on oc (λ us f1 w1 t1. Ends (Next (us ++ [])) f1 w1 t1)) (call_runs c d f w n)
      ∙ go_on_gives (call h (arguments f xs) d f w n) (λ us f1 w1 t1. Ends (Next (us ++ [])) f1 w1 t1) (λ us f1 w1 t1. ap (λ vs. Ends (Next vs) f1 w1 t1) (append_nil us))
  call_gives (into eq hs) d f w n = call_gives hs d f w n
  call_gives (dropped eq hs) d f w n = call_gives hs d f w n

  -- ---- gaps

  abbrev pub after_call : List (Option ℕ) → List Value → List Value → World → ℕ → Outcome
  after_call os vs f w t = Ends (Next []) (stored os vs f) w t

  alone_runs : (h : ℕ) (xs : List Argument) (os : List (Option ℕ)) → os ≡ [] → (c : Comp) (d : ℕ) (f : List Value) (w : World) (n : ℕ) → c d f w n ≡ call h (arguments f xs) d f w n → in_order (each (c ∷ []) (operate Drop) ∷ []) d f w n ≡ go_on (call h (arguments f xs) d f w n) (after_call os)
  unfolding each then_do end_by in_order operate
  alone_runs h xs os is c d f w n e =
      go_on_twice (c d f w n) (λ us f1 w1 t1. Ends (Next []) f1 w1 t1) (λ vs f1 w1 t1. Ends (Next []) f1 w1 t1)
      ∙ ap (λ oc. go_on oc (λ us f1 w1 t1. Ends (Next []) f1 w1 t1)) e
      ∙ ap (λ o. go_on (call h (arguments f xs) d f w n) (after_call o)) (sym is)

  assigned_runs : {h : ℕ} {xs : List Argument} {os : List (Option ℕ)} {ts : Typeds TypeTree} → AreTargets rights h xs os ts → (d : ℕ) (f : List Value) (w : World) (n : ℕ) →
      in_order (assigned (take (length os) (all_do ts)) (each (values_of (drop (length os) (all_do ts))) give) ∷ []) d f w n ≡ go_on (call h (arguments f xs) d f w n) (after_call os)
  unfolding then_do end_by in_order
  assigned_runs {h = h} {xs = xs} {os = os} {ts = ts} hs d f w n =
      let c : Comp = each (values_of (drop (length os) (all_do ts))) give in
      let k : List Value → Comp = λ us. then_do c (λ vs. stores (take (length os) (all_do ts)) us vs) in
      ap (λ oc. go_on oc (λ vs f1 w1 t1. Ends (Next []) f1 w1 t1)) (targets_found hs k d f w n)
      ∙ go_on_twice (c d f w n) (λ vs f1 w1 t1. stores (take (length os) (all_do ts)) [] vs d f1 w1 t1) (λ vs f1 w1 t1. Ends (Next []) f1 w1 t1)
      ∙ ap (λ oc. go_on oc (λ vs f1 w1 t1. go_on (stores (take (length os) (all_do ts)) [] vs d f1 w1 t1) (λ us f2 w2 t2. Ends (Next []) f2 w2 t2))) (call_gives hs d f w n)
      ∙ go_on_same (call h (arguments f xs) d f w n) (λ vs f1 w1 t1. go_on (stores (take (length os) (all_do ts)) [] vs d f1 w1 t1) (λ us f2 w2 t2. Ends (Next []) f2 w2 t2)) (after_call os)
      (λ vs f1 w1 t1. ap (λ oc. go_on oc (λ us f2 w2 t2. Ends (Next []) f2 w2 t2)) (targets_store hs vs d f1 w1 t1))

  declared_runs : (n : ℕ) (z : Zero) (k : Form) (i j : ℕ) (l : Label TypeTree) (ps qs : Typeds TypeTree) → plan rights k l ps ≡ Once (Declare n) → (d : ℕ) (f : List Value) (w : World) (t : ℕ) →
      assigned (take 1 (all_do (more (typed k i j l ps) qs))) (give (replicate 1 (zero_value z))) d f w t ≡ Ends (Next []) (slice_set f n (zero_value z)) w t
  unfolding act each then_do end_by stores write
  declared_runs n z k i j l ps qs eq d f w t = ap (λ x. assigned (x ∷ []) (give (zero_value z ∷ [])) d f w t) (planned k i j l ps (Declare n) eq)

  pub gap_runs : {h : ℕ} {xs : List Argument} {os : List (Option ℕ)} {ys : List Fresh} {ts : Typeds TypeTree} → IsGap rights h xs os ys ts → (d : ℕ) (f : List Value) (w : World) (n : ℕ) →
      in_order (values_of (all_do ts)) d f w n ≡ go_on (call h (arguments (ready ys f) xs) d (ready ys f) w n) (after_call os)
  unfolding act in_order then_do end_by
  gap_runs {h = h} {xs = xs} {os = os} (alone {f = g} {i = i} {j = j} {e = e} {t = t} is eq c) d f w n =
      ap (λ x. in_order (x.value ∷ []) d f w n) (planned g i j e (more t none) (Perform Drop) eq)
      ∙ alone_runs h xs os is (does t).value d f w n (call_runs c d f w n)
  gap_runs {h = h} {xs = xs} {os = os} (assigns {f = g} {i = i} {j = j} {e = e} {ps = ps} eq hs) d f w n =
      ap (λ x. in_order (x.value ∷ []) d f w n) (planned g i j e ps (AssignTo (length os)) eq)
      ∙ assigned_runs hs d f w n
  gap_runs {h = h} {xs = xs} {os = os} (declares {ys = ys} {n = m} {z = z} {f = f0} {g = g} {k = k} {i = i} {j = j} {i1 = i1} {j1 = j1} {i2 = i2} {j2 = j2} {e = e} {c = c} {l = l} {ps = ps} {qs = qs} {ts = ts} eq eq1 eq2 hs) d f w n =
      let name : Typed TypeTree = typed k i2 j2 l ps in
      let spec : Typed TypeTree = typed g i1 j1 c (more name qs) in
      ap (λ x. go_on (x.value d f w n) (λ vs f1 w1 t1. in_order (values_of (all_do ts)) d f1 w1 t1)) (planned f0 i j e (more spec none) Sequence eq)
      ∙ ap (λ x. go_on (go_on (x.value d f w n) (λ vs f1 w1 t1. Ends (Next []) f1 w1 t1)) (λ vs f1 w1 t1. in_order (values_of (all_do ts)) d f1 w1 t1)) (planned g i1 j1 c (more name qs) (ZeroTo 1 z) eq1)
      ∙ ap (λ oc. go_on (go_on oc (λ vs f1 w1 t1. Ends (Next []) f1 w1 t1)) (λ vs f1 w1 t1. in_order (values_of (all_do ts)) d f1 w1 t1)) (declared_runs m z k i2 j2 l ps qs eq2 d f w n)
      ∙ gap_runs hs d (slice_set f m (zero_value z)) w n

  pub tail_runs : {h : ℕ} {xs : List Argument} {keeps : Bool} {ts : Typeds TypeTree} → IsTail rights h xs keeps ts → (d : ℕ) (f : List Value) (w : World) (n : ℕ) →
      in_order (values_of (all_do ts)) d f w n ≡ go_on (call h (arguments f xs) d f w n) (λ vs g w1 t1. Ends (Return (kept keeps vs)) g w1 t1)
  unfolding act each in_order then_do end_by operate
  tail_runs {h = h} {xs = xs} (returns_call {f = g} {i = i} {j = j} {e = e} {t = t} eq c) d f w n =
      ap (λ x. in_order (x.value ∷ []) d f w n) (planned g i j e (more t none) Returns eq)
      ∙ go_on_twice ((does t).value d f w n) (λ us f1 w1 t1. Ends (Return (us ++ [])) f1 w1 t1) (λ vs f1 w1 t1. Ends (Next []) f1 w1 t1)
      ∙ ap (λ oc. go_on oc (λ us f1 w1 t1. Ends (Return (us ++ [])) f1 w1 t1)) (call_runs c d f w n)
      ∙ go_on_same (call h (arguments f xs) d f w n) (λ us f1 w1 t1. Ends (Return (us ++ [])) f1 w1 t1) (λ vs g1 w1 t1. Ends (Return vs) g1 w1 t1) (λ us f1 w1 t1. ap (λ vs. Ends (Return vs) f1 w1 t1) (append_nil us))
  tail_runs {h = h} {xs = xs} (call_then_return {f = g} {g = k} {i = i} {j = j} {a = a} {b = b} {e = e} {c = l} {t = t} eq c eq') d f w n =
      ap (λ x. go_on (x.value d f w n) (λ vs f1 w1 t1. in_order ((does (typed k a b l none)).value ∷ []) d f1 w1 t1)) (planned g i j e (more t none) (Perform Drop) eq)
      ∙ ap (λ x. go_on (each ((does t).value ∷ []) (operate Drop) d f w n) (λ vs f1 w1 t1. in_order (x.value ∷ []) d f1 w1 t1)) (planned k a b l none Returns eq')
      ∙ go_on_twice ((does t).value d f w n) (λ us f1 w1 t1. Ends (Next []) f1 w1 t1) (λ vs f1 w1 t1. Ends (Return []) f1 w1 t1)
      ∙ ap (λ oc. go_on oc (λ us f1 w1 t1. Ends (Return []) f1 w1 t1)) (call_runs c d f w n)

  -- ---- the function

  passed_are : (f : List Value) (rs : List ℕ) → arguments f (all_passed rs) ≡ results f rs
  passed_are f [] = refl
  passed_are f (r ∷ rs) = ap (λ vs. nth f r ∷ vs) (passed_are f rs)

  -- what a caller sees of it
  left_behind : (f0 : List Value) (oc : Outcome) (k k' : List Value → List Value → World → ℕ → Outcome) → ((vs f : List Value) (w : World) (t : ℕ) → leave f0 (k vs f w t) ≡ leave f0 (k' vs f w t)) → leave f0 (go_on oc k) ≡ leave f0 (go_on oc k')
  left_behind f0 (Ends (Next vs) f w t) k k' h = h vs f w t
  left_behind f0 (Ends (Return vs) f w t) k k' h = refl
  left_behind f0 (Ends Break f w t) k k' h = refl
  left_behind f0 (Ends Continue f w t) k k' h = refl
  left_behind f0 (Ends Fallthrough f w t) k k' h = refl
  left_behind f0 (Ends (Panics p) f w t) k k' h = refl
  left_behind f0 (Undecided o) k k' h = refl

  return_runs : {rs : List ℕ} {ts : Typeds TypeTree} → IsReturn rights rs ts → (f0 : List Value) (d : ℕ) (f : List Value) (w : World) (n : ℕ) → leave f0 (in_order (values_of (all_do ts)) d f w n) ≡ leave f0 (Ends (Return (results f rs)) f w n)
  unfolding act in_order then_do end_by
  return_runs no_return f0 d f w n = refl
  return_runs (gives_back {rs = rs} {f = g} {i = i} {j = j} {e = e} {ps = ps} eq hs) f0 d f w n =
      ap (λ x. leave f0 (go_on (x.value d f w n) (λ vs f1 w1 t1. Ends (Next []) f1 w1 t1))) (planned g i j e ps Returns eq)
      ∙ ap (λ oc. leave f0 (go_on oc (λ vs f1 w1 t1. Ends (Next []) f1 w1 t1))) (arguments_run hs (λ vs. end_by (Return vs)) d f w n)
      ∙ ap (λ vs. leave f0 (Ends (Return vs) f w n)) (passed_are f rs)

  all_joined : (ws ts : Typeds TypeTree) → all_do (joined ws ts) ≡ all_do ws ++ all_do ts
  all_joined none ts = refl
  all_joined (more t ws) ts = ap (λ xs. does t ∷ xs) (all_joined ws ts)
  all_joined (skip ws) ts = ap (λ xs. absent ∷ xs) (all_joined ws ts)

  -- statements and a return behind them
  abbrev pub returned : List ℕ → List Value → List Value → World → ℕ → Outcome
  returned rs vs f w t = Ends (Return (results f rs)) f w t

  alone_in : (f0 : List Value) (oc : Outcome) → leave f0 (go_on oc (λ vs f1 w1 t1. Ends (Next []) f1 w1 t1)) ≡ leave f0 oc
  alone_in f0 (Ends (Next vs) f w t) = refl
  alone_in f0 (Ends (Return vs) f w t) = refl
  alone_in f0 (Ends Break f w t) = refl
  alone_in f0 (Ends Continue f w t) = refl
  alone_in f0 (Ends Fallthrough f w t) = refl
  alone_in f0 (Ends (Panics p) f w t) = refl
  alone_in f0 (Undecided o) = refl

  pub body_runs : {ws : Typeds TypeTree} {rs : List ℕ} {t : Typed TypeTree} → IsBody rights ws rs t → (f0 : List Value) (d : ℕ) (f : List Value) (w : World) (n : ℕ) →
      leave f0 ((does t).value d f w n) ≡ leave f0 (go_on (in_order (values_of (all_do ws)) d f w n) (returned rs))
  unfolding act in_order then_do end_by
  body_runs {ws = ws} {rs = rs} (body {f = g} {g = k} {i = i} {j = j} {a = a} {b = b} {e = e} {c = c} {back = back} eq eq' hr) f0 d f w n =
      let block : Typed TypeTree = typed k a b c (joined ws back) in
      ap (λ x. leave f0 (x.value d f w n)) (planned g i j e (more block none) Sequence eq)
      ∙ alone_in f0 ((does block).value d f w n)
      ∙ ap (λ x. leave f0 (x.value d f w n)) (planned k a b c (joined ws back) Sequence eq')
      ∙ ap (λ xs. leave f0 (in_order (values_of xs) d f w n)) (all_joined ws back)
      ∙ ap (λ cs. leave f0 (in_order cs d f w n)) (values_joined (all_do ws) (all_do back))
      ∙ ap (leave f0) (in_order_joined (values_of (all_do ws)) (values_of (all_do back)) d f w n)
      ∙ left_behind f0 (in_order (values_of (all_do ws)) d f w n) (λ vs f1 w1 t1. in_order (values_of (all_do back)) d f1 w1 t1) (returned rs) (λ vs f1 w1 t1. return_runs hr f0 d f1 w1 t1)
