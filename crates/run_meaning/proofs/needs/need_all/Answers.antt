-- `run_meaning::needs::need_all` meets its contract.
use Rattle.std.proofs.Common.{◌++◌, ◌∙◌}
use Rattle.circuit.specs.Meaning.{circuit_of}
use Rattle.run_values.specs.Need.{need_of}
use Rattle.run_values.specs.Asking.{state_in, net_in}
use Rattle.run_values.proofs.Exits.{returned}
use Rattle.run_meaning.specs.Ran.{marked, with_higher, bad_qubits}
use Rattle.run_meaning.proofs.Chain.{then-stop, then-on}
use Rattle.run_meaning.proofs.needs.need_all.Goals as goal

pub returns-in_err-need_linear : goal.returns-in_err-need_linear
returns-in_err-need_linear c =
    let a = c.args in
    let later = with_higher a.keys.now (marked 0 a.rows.now) ++ bad_qubits (circuit_of a.on.now.circuit.now) (state_in a.on.now) in
    returned c.from_residual.result _ c.from_residual.ensures.1
    (then-stop (need_of (net_in a.on.now)) (marked 0 a.flags.now) later a.values.now c.in_err-need_linear.ensures)

pub returns-in_err-need_rows : goal.returns-in_err-need_rows
returns-in_err-need_rows c =
    let a = c.args in
    let one = need_of (net_in a.on.now) in
    let rows = with_higher a.keys.now (marked 0 a.rows.now) in
    let bads = bad_qubits (circuit_of a.on.now.circuit.now) (state_in a.on.now) in
    returned c.from_residual-in_err-need_rows.result _ c.from_residual-in_err-need_rows.ensures.1
    (then-stop one rows bads c.need_linear.new.values c.in_err-need_rows.ensures
    ∙ then-on one (marked 0 a.flags.now) (rows ++ bads) a.values.now c.in_ok-need_linear.ensures)

pub returns : goal.returns
returns c =
    let a = c.args in
    let one = need_of (net_in a.on.now) in
    let rows = with_higher a.keys.now (marked 0 a.rows.now) in
    let bads = bad_qubits (circuit_of a.on.now.circuit.now) (state_in a.on.now) in
    c.need_bads.ensures
    ∙ then-on one rows bads c.need_linear.new.values c.in_ok-need_rows.ensures
    ∙ then-on one (marked 0 a.flags.now) (rows ++ bads) a.values.now c.in_ok-need_linear.ensures
