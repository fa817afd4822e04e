-- What entering a body comes to.
use Rattle.std.proofs.Common.{◌≡◌, ◌<◌, ℕ, zero, suc, ◌-◌, List, length, refl, sym, ap, ◌∙◌, subst, arith, Ok, Err}
use Rattle.std.specs.Prelude.{Vec}
use Rattle.std.specs.declared.alloc.Global.{Global}
use Rattle.go_typed.specs.declared.node.TypedNode.{TypedNode}
use Rattle.go_typed.specs.Funcs.{FuncView}
use Rattle.go_typed.specs.Packages.{PackageView}
use Rattle.go_typed.specs.Views.{Known}
use Rattle.go_meaning.specs.Values as meant
use Rattle.go_meaning.specs.Meaning.{frame_of}
use Rattle.go_values.specs.declared.value.Value.{Value}
use Rattle.go_values.specs.Views.{views}
use Rattle.go_values.specs.Worlds.{world_view}
use Rattle.go_eval_plans.specs.declared.exit.Exit.TheVariants as exit
use Rattle.go_eval_plans.specs.declared.machine.Machine.{Machine}
use Rattle.go_eval_plans.specs.Programs.{code_of, doing}
use Rattle.go_eval_machine.specs.declared.task.Task.{Task}
use Rattle.go_eval_machine.specs.declared.task.What.TheVariants as what
use Rattle.go_eval_machine.specs.declared.engine.Engine.{Engine}
use Rattle.go_eval_machine.specs.Rests.{then_rest}
use Rattle.go_eval_machine.specs.Tasks.{task_rest, rest, AreFit}
use Rattle.go_eval_machine.specs.Engines.{in_state, Work, Goes, IsPushed, asks}
use Rattle.go_eval_machine.proofs.Public.{laid_value, goes_on, goes_pushed, goes_laid, goes_undecided}
use Rattle.go_eval.specs.Called.{enters}
use Rattle.go_eval.proofs.Calling.{no_depth, body_entered}

module _ (p : PackageView) (g : FuncView) (us : List meant.Value) (old : Engine) where
  pub not_entered : old.depth ≡ 0 → Goes {X = Unit {0}} p (enters p g us) old (Err exit.Undecided) old
  not_entered e = goes_undecided p (enters p g us) old (λ n s. ap (λ (d : ℕ). enters p g us n s (views old.values.items) d (views old.machine.frame.items) (world_view old.machine.world) old.machine.turns) e
      ∙ no_depth p n s (views old.values.items) g us (views old.machine.frame.items) (world_view old.machine.world) old.machine.turns)

  module _ (m m1 m2 : Engine) (frame outer : Vec Value Global) (b : ℕ) (x y : TypedNode) (ex : x ≡ g.root) (ey : y ≡ g.root) (k : Known (length p.types.shapes) g.root) where
    entered_state : (n d : ℕ) → old.depth ≡ suc d → views frame.items ≡ frame_of (code_of p.types g) us → outer ≡ old.machine.frame → b ≡ length (views old.values.items) → old.machine.turns < n →
        in_state (enters p g us n (rest p n old.tasks.items) (views old.values.items)) old ≡ then_rest (doing p n y).value (task_rest p n x b (what.Leave outer) (rest p n old.tasks.items)) (views old.values.items) d (views frame.items) (world_view old.machine.world) old.machine.turns
    unfolding task_rest
    entered_state n d ed ef eo eb le = ap (λ (d1 : ℕ). enters p g us n (rest p n old.tasks.items) (views old.values.items) d1 (views old.machine.frame.items) (world_view old.machine.world) old.machine.turns) ed
        ∙ (body_entered p n (rest p n old.tasks.items) (views old.values.items) g us b eb (views frame.items) ef d (views old.machine.frame.items) (world_view old.machine.world) old.machine.turns le
        ∙ rw (ey, eo) refl)

    pub goes_entered : old.depth ≡ suc m.depth → m.tasks ≡ old.tasks → m.values ≡ old.values → views frame.items ≡ frame_of (code_of p.types g) us → m.machine.frame ≡ frame → outer ≡ old.machine.frame → m.machine.world ≡ old.machine.world → m.machine.turns ≡ old.machine.turns →
        b ≡ length (views old.values.items) → IsPushed x b (what.Leave outer) m m1 → IsPushed y 0 what.Value m1 m2 → Goes {X = Unit {0}} p (enters p g us) old (Ok tt) m2
    goes_entered ed et ev ef emf eo ew en eb h1 h2 =
        let known_x : Known (length p.types.shapes) x = subst (Known (length p.types.shapes)) (sym ex) k in
        let known_y : Known (length p.types.shapes) y = subst (Known (length p.types.shapes)) (sym ey) k in
        let all : Work = λ n s ws. asks p y n (task_rest p n x b (what.Leave outer) s) ws in
        goes_on p (enters p g us) all old m (Ok tt) m2
        (goes_pushed p all (asks p y) x b (what.Leave outer) m m1 (Ok tt) m2 (known_x, tt) h1 (goes_laid p (asks p y) y 0 what.Value m1 m2 tt (known_y, tt) h2 (λ n s. laid_value p n y s (views m1.values.items))) (λ n s d f w t. refl))
        (subst (λ (ts : Vec Task Global). AreFit (length p.types.shapes) old.tasks.items → AreFit (length p.types.shapes) ts.items) (sym et) (λ a. a)) (omega (arith, en))
        (λ n le. entered_state n m.depth ed ef eo eb le
        ∙ (ap (λ (fr : Vec Value Global). all n (rest p n old.tasks.items) (views old.values.items) m.depth (views fr.items) (world_view old.machine.world) old.machine.turns) (sym emf)
        ∙ (ap (λ w. all n (rest p n old.tasks.items) (views old.values.items) m.depth (views m.machine.frame.items) (world_view w) old.machine.turns) (sym ew)
        ∙ (ap (λ (t : ℕ). all n (rest p n old.tasks.items) (views old.values.items) m.depth (views m.machine.frame.items) (world_view m.machine.world) t) (sym en)
        ∙ (ap (λ (q : Vec Value Global). in_state (all n (rest p n old.tasks.items) (views q.items)) m) (sym ev)
        ∙ ap (λ (ts : Vec Task Global). in_state (all n (rest p n ts.items) (views m.values.items)) m) (sym et))))))
