use Rattle.std.proofs.Common.{◌≡◌, ◌∙◌, ◌+◌, true, take, drop, length, ap, sym, arith}
use Rattle.std.specs.Prelude.{min}
use Rattle.go_typed.specs.declared.node.TypedNode.{out-TypedNode}
use Rattle.go_typed.specs.Forms.{values_count}
use Rattle.go_typed.specs.Funcs.{is_full}
use Rattle.go_typed.specs.Lists.{present}
use Rattle.go_typed.specs.Trees.{form_of, parts_of}
use Rattle.go_typed.specs.Views.{view, views}
use Rattle.clone_window.specs.Windows.{row_of}
use Rattle.clone_window.proofs.Opened.{view_out}
use Rattle.clone_window.proofs.RunParts.{run-clipped, parts-run, drop-both}
use Rattle.clone_window.proofs.run.run_of.Goals as goal

pub returns : goal.returns
returns c =
    let list = c.args.list.now in
    let parts = c.deref.result.now in
    let items = (out-TypedNode list).parts.items in
    let v = values_count (out-TypedNode list).form in
    let same : views parts ≡ parts_of (view list) = ap views c.deref.ensures.value ∙ sym (ap parts_of (view_out list)) in
    let full : is_full (views parts) ≡ true = ap is_full same ∙ c.requires.full in
    let begin : c.min-begin.result ≡ min (length parts) (c.args.first + v) = omega (arith, c.min-begin.ensures, c.len-most.ensures, c.values_count.ensures, ap length c.deref.ensures.value) in
    let end : c.min-end.result ≡ min (length parts) (c.min-begin.result + c.args.count) = omega (arith, c.min-end.ensures, c.len-most.ensures, ap length c.deref.ensures.value) in
    ap views (run-clipped parts (c.args.first + v) c.args.count c.min-begin.result c.min-end.result begin end)
    ∙ parts-run parts (c.args.first + v) c.args.count full
    ∙ ap (λ l. row_of (take c.args.count l)) (sym (drop-both v c.args.first (present (views parts))))
    ∙ ap (λ ps. row_of (take c.args.count (drop c.args.first (drop v (present ps))))) same
    ∙ ap (λ n. row_of (take c.args.count (drop c.args.first (drop (values_count n) (present (parts_of (view list))))))) (sym (ap form_of (view_out list)))
