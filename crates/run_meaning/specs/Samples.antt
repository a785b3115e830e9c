-- Some of 01's rules of running, computed: the answer and every byte of the value table. The starred runs are in `run_left/specs/Samples.antt`. Assumes nothing.
use Rattle.std.specs.Prelude.{◌≡◌, refl, true, List, [], ◌∷◌, map, ℕ, ℤ, pos, negsuc, replicate}
use Rattle.penalty.specs.Rows.{row_of, rows}
use Rattle.units.specs.declared.Form.{Form}
use Rattle.units.specs.declared.Form.TheVariants.{Binary, Ising}
use Rattle.units.specs.Name.{gate, qubit}
use Rattle.energy.specs.Plain.{wire}
use Rattle.energy.specs.Circuit.{Circuit, Gate, InputBit, Not, And, Or, Quotient, Remainder}
use Rattle.energy.specs.Numbering.{name}
use Rattle.energy.specs.Model.{empty, add, add_linear, add_pair, place, place_all, give, without, fix, ends, ising, linear_by, pairs_by, energy_by}
use Rattle.energy.specs.Fixing.{fix_all}
use Rattle.energy.specs.Finished.{finished, in_form}
use Rattle.numbering.specs.State.{names_of, start}
use Rattle.numbering.specs.Visit.{one_name, three_names, take, each as visit_each, process, step as visit_step, visit, visit_of}
use Rattle.numbering.specs.Numbered.{Outcome, refused, numbered, number, visit_roots, join_names, results_from, sharers_from, named_of}
use Rattle.circuit.specs.declared.Refusal.TheVariants.{FewValues, OtherCount, NoQubit, DivisorZero, NotGiven}
use Rattle.run_rules.specs.Rules.{law_of, depth}
use Rattle.run_values.specs.Need.{each, number as number_in, settle, follow, step, need, need_of}
use Rattle.run_meaning.specs.Give.{give_bits, give_all}
use Rattle.run_meaning.specs.Ran.{Built, Done, done, refusal, answer, marked, keys_of, higher, with_higher, true_nids, valued, within, ran}

-- the finished model of a circuit, in a form
abbrev built_from : Form → Circuit → Outcome → Built
built_from form c (refused g s) = record { circuit = c; state = s; model = empty 0; form = form }
built_from form c (numbered s) =
    record { circuit = c; state = s; model = in_form form (finished (names_of c) (named_of c s) c.constraints); form = form }

abbrev run : Form → Circuit → List ℤ → List ℕ → Done
run form c vs t = ran (built_from form c (number c)) vs t

-- "Circuit P: gates 0, 1 InputBit, 2 And(0,1); bad state gate 2 nid 30; input 0 nid 20 with bits 0, 1."
unfoldable pub P : Circuit
P =
    record {
      gates = InputBit ∷ InputBit ∷ And 0 1 ∷ [];
      bads = record { gate = 2; nid = 30 } ∷ [];
      constraints = [];
      inputs = record { nid = 20; bits = 0 ∷ 1 ∷ [] } ∷ [];
    }

-- a run of P from five bytes
abbrev run_p : Form → ℤ → Done
run_p form v = run form P (v ∷ []) (7 ∷ 7 ∷ 7 ∷ 7 ∷ 7 ∷ [])

-- 3, 1 and -1 in the Ising form: the energies of the 0/1 form (counts of halves)
P-ising : (run_p Ising (pos 3) ≡ done (answer Ising (pos 0) (30 ∷ [])) (2 ∷ 2 ∷ 1 ∷ 1 ∷ 1 ∷ []))
    × (run_p Ising (pos 1) ≡ done (answer Ising (pos 4) (30 ∷ [])) (2 ∷ 2 ∷ 1 ∷ 0 ∷ 1 ∷ []))
    × (run_p Ising (negsuc 0) ≡ done (answer Ising (pos 12) (30 ∷ [])) (2 ∷ 2 ∷ 0 ∷ 0 ∷ 1 ∷ []))
unfolding P start number visit_roots join_names one_name three_names take visit_each process visit_step visit visit_of results_from sharers_from name wire add add_linear add_pair place place_all give without fix fix_all ends ising linear_by pairs_by energy_by law_of depth each number_in settle follow step need need_of give_bits give_all marked keys_of higher with_higher true_nids valued within ran row_of rows
P-ising = (refl, refl, refl)

-- 10 changes no byte, and later bytes stay; 11 sets the model's bytes to 2
P-tables : (run Binary P (pos 3 ∷ []) (7 ∷ 7 ∷ 7 ∷ 7 ∷ []) ≡ done (refusal FewValues) (7 ∷ 7 ∷ 7 ∷ 7 ∷ []))
    × (run Binary P [] (7 ∷ 7 ∷ 7 ∷ 7 ∷ 7 ∷ 7 ∷ []) ≡ done (refusal OtherCount) (2 ∷ 2 ∷ 2 ∷ 2 ∷ 2 ∷ 7 ∷ []))
    × (run Binary P (pos 0 ∷ []) (7 ∷ 7 ∷ 7 ∷ 7 ∷ 7 ∷ 7 ∷ []) ≡ done (answer Binary (pos 12) (30 ∷ [])) (2 ∷ 2 ∷ 0 ∷ 0 ∷ 1 ∷ 7 ∷ []))
unfolding P start number visit_roots join_names one_name three_names take visit_each process visit_step visit visit_of results_from sharers_from name wire add add_linear add_pair place place_all give without fix fix_all linear_by pairs_by energy_by law_of depth each number_in settle follow step need need_of give_bits give_all marked keys_of higher with_higher true_nids valued within ran row_of rows
P-tables = (refl, refl, refl)

-- Bit 0 of the quotient, or remainder, of a list of two bits by one of one: of 3 by 1, of 2 by 1 and of 3 by 0. The division is needed through the Not.
D : Gate → Circuit
D divides =
    record {
      gates = InputBit ∷ InputBit ∷ InputBit ∷ divides ∷ Not 3 ∷ [];
      bads = record { gate = 4; nid = 9 } ∷ [];
      constraints = [];
      inputs = record { nid = 1; bits = 0 ∷ 1 ∷ [] } ∷ record { nid = 2; bits = 2 ∷ [] } ∷ [];
    }

abbrev run_d : Gate → ℤ → ℤ → Done
run_d divides x y = run Binary (D divides) (x ∷ y ∷ []) (replicate 7 2)

divisions : (run_d (Quotient 0 (0 ∷ 1 ∷ []) (2 ∷ [])) (pos 3) (pos 1) ≡ done (answer Binary (pos 4) (9 ∷ [])) (2 ∷ 2 ∷ 1 ∷ 1 ∷ 1 ∷ 1 ∷ 1 ∷ []))
    × (run_d (Quotient 0 (0 ∷ 1 ∷ []) (2 ∷ [])) (pos 2) (pos 1) ≡ done (answer Binary (pos 0) (9 ∷ [])) (2 ∷ 2 ∷ 0 ∷ 0 ∷ 1 ∷ 1 ∷ 1 ∷ []))
    × (run_d (Remainder 0 (0 ∷ 1 ∷ []) (2 ∷ [])) (pos 3) (pos 1) ≡ done (answer Binary (pos 0) (9 ∷ [])) (2 ∷ 2 ∷ 0 ∷ 1 ∷ 1 ∷ 1 ∷ 1 ∷ []))
    × (run_d (Quotient 200 (0 ∷ 1 ∷ []) (2 ∷ [])) (pos 3) (pos 1) ≡ done (answer Binary (pos 0) (9 ∷ [])) (2 ∷ 2 ∷ 0 ∷ 1 ∷ 1 ∷ 1 ∷ 1 ∷ []))
    × (run_d (Quotient 0 (0 ∷ 1 ∷ []) (2 ∷ [])) (pos 3) (pos 0) ≡ done (refusal (DivisorZero (qubit 2))) (replicate 7 2))
unfolding D start number visit_roots join_names one_name three_names take visit_each process visit_step visit visit_of results_from sharers_from name wire add add_linear add_pair place place_all give without fix fix_all linear_by pairs_by energy_by law_of depth each number_in settle follow step need need_of give_bits give_all marked keys_of higher with_higher true_nids valued within ran row_of rows
divisions = (refl, refl, refl, refl, refl)

-- an input bit that is listed and unreached, one that is needed and not listed, and one that a constraint fixes; a given value comes before a fixed one
U : List ℕ → List ℕ → Circuit
U bits fixed_to =
    record {
      gates = InputBit ∷ InputBit ∷ InputBit ∷ Or 0 1 ∷ [];
      bads = record { gate = 3; nid = 5 } ∷ [];
      constraints = map (λ (g : ℕ). record { gate = g; value = true }) fixed_to;
      inputs = record { nid = 1; bits = bits } ∷ [];
    }

inputs : (run Binary (U (0 ∷ 2 ∷ []) []) (pos 1 ∷ []) (replicate 5 2) ≡ done (refusal (NoQubit (gate 2))) (replicate 5 2))
    × (run Binary (U (0 ∷ []) []) (pos 1 ∷ []) (replicate 5 2) ≡ done (refusal (NotGiven (qubit 3))) (replicate 5 2))
    × (run Binary (U (0 ∷ 1 ∷ 2 ∷ []) (2 ∷ [])) (pos 2 ∷ []) (replicate 6 2) ≡ done (answer Binary (pos 0) (5 ∷ [])) (2 ∷ 2 ∷ 0 ∷ 1 ∷ 1 ∷ 0 ∷ []))
unfolding U start number visit_roots join_names one_name three_names take visit_each process visit_step visit visit_of results_from sharers_from name wire add add_linear add_pair place place_all give without fix fix_all linear_by pairs_by energy_by law_of depth each number_in settle follow step need need_of give_bits give_all marked keys_of higher with_higher true_nids valued within ran row_of rows
inputs = (refl, refl, refl)

-- Two bad states: the join's value is not needed, as the joined qubit is fixed and has no entry left. A false bad state is not listed.
J : Circuit
J =
    record {
      gates = InputBit ∷ InputBit ∷ [];
      bads = record { gate = 0; nid = 5 } ∷ record { gate = 1; nid = 6 } ∷ [];
      constraints = [];
      inputs = record { nid = 1; bits = 0 ∷ 1 ∷ [] } ∷ [];
    }

joins : run Binary J (pos 2 ∷ []) (replicate 5 2) ≡ done (answer Binary (pos 0) (6 ∷ [])) (2 ∷ 2 ∷ 0 ∷ 1 ∷ 2 ∷ [])
unfolding J start number visit_roots join_names one_name three_names take visit_each process visit_step visit visit_of results_from sharers_from name wire add add_linear add_pair place place_all give without fix fix_all linear_by pairs_by energy_by law_of depth each number_in settle follow step need need_of give_bits give_all marked keys_of higher with_higher true_nids valued within ran row_of rows
joins = refl
