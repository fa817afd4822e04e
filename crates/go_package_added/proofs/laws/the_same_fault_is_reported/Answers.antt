use Rattle.go_package_added.proofs.Whole.{declarations_fail, fails_behind, fails_in_front, names_fail}
use Rattle.go_package_added.proofs.laws.the_same_fault_is_reported.Goals as goal

pub returns : goal.returns
returns c = record {
  names = λ k ss us h trees bytes none fits shared f e. names_fail ss us (c.appended_functions_keep_the_fault_of_names.ensures k ss us h trees bytes none fits shared) f e;
  declarations = λ k ss us h keeps faultless bytes none fits main s signature f e.
      declarations_fail ss us keeps.gap.shared s (c.names_stay_free_of_faults.ensures k ss us h faultless none fits)
      (c.appended_functions_keep_the_fault_of_declarations.ensures k ss us h keeps faultless bytes main s signature) f e;
  in_front = λ k ss us h keeps old new x s answer kept f e.
      fails_in_front k ss us h keeps old new (c.functions_are_specified_in_order.ensures ss old) (c.functions_are_specified_in_order.ensures us new) x s answer kept f e;
  behind = λ k ss us h keeps old new x s answer kept y typed b own rights f e.
      fails_behind k ss us h keeps old new (c.functions_are_specified_in_order.ensures ss old) (c.functions_are_specified_in_order.ensures us new) x s answer kept y typed b own rights f e;
}
