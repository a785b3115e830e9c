-- `text_left::print_left` meets its contract: the first pass tells the length, and the second writes where there is room.
use Rattle.std.proofs.Common.{◌≡◌, sym, ap, ◌∙◌, List, [], ℕ, ◌+◌, ◌*◌, ◌≤◌, length, arith, w64, to_z-of_z}
use Rattle.laws.specs.Abs.{fits-abs}
use Rattle.text.specs.Paste.{printed-as, printed-whole}
use Rattle.qubot_left.specs.Built.{Tables, lent}
use Rattle.qubot_left.specs.Left.{names-counted}
use Rattle.text_left.specs.Dumped.{text_in, too_short, long-enough, text-as}
use Rattle.text_left.specs.Left.{printable, names-few}
use Rattle.text_left.proofs.print_left.Goals as goal
use Rattle.text_left.proofs.print_left.Goals.{After-counts_of-counts, After-text_length-length}

-- the counts are small
few : (c : After-counts_of-counts) → 3 * c.counts_of-counts.result.gates + c.counts_of-counts.result.bad_states + 1 ≤ 65536
few c =
    names-few c.counts_of-counts.result c.requires c.counts_of-counts.ensures

-- the text
abbrev tables_of : After-text_length-length → Tables
tables_of s =
    lent s.args.qubits.now [] [] s.args.linear.now s.args.has.now [] s.args.fixed.now s.args.keys.now s.args.weights.now

abbrev the_text : After-text_length-length → List ℕ
the_text s = text_in s.args.circuit.now (tables_of s) s.args.f

-- the length that the first pass told is the text's
told : (c : After-text_length-length) → c.text_length-length.result ≡ length (the_text c)
told c =
    c.text_length-length.ensures
    ∙ ap length (text-as c.args.circuit.now (tables_of c) c.args.f _ _ (names-counted _ _ c.counts_of-counts.ensures) (to_z-of_z (fits-abs w64 _ c.requires.offset)))

pub overflow_mul-names : goal.overflow_mul-names
overflow_mul-names c = omega (arith, few (goal.at.overflow_mul-names c).After-counts_of-counts)

pub overflow_add-names : goal.overflow_add-names
overflow_add-names c = omega (arith, few (goal.at.overflow_add-names c).After-counts_of-counts)

pub overflow_add-names-2 : goal.overflow_add-names-2
overflow_add-names-2 c = omega (arith, few (goal.at.overflow_add-names-2 c).After-counts_of-counts)

pub text_length-length-requires : goal.text_length-length-requires
text_length-length-requires c = printable c.requires c.counts_of-counts.ensures c.input_starts-starts.ensures (names-counted _ _ c.counts_of-counts.ensures)

pub returns-then-buf-length : goal.returns-then-buf-length
returns-then-buf-length c = too_short (the_text (goal.at.returns-then-buf-length c).After-text_length-length) c.args.buf.now c.text_length-length.result (told (goal.at.returns-then-buf-length c).After-text_length-length) c.if-buf-length.true

pub print_model-requires : goal.print_model-requires
print_model-requires c = printable c.requires c.counts_of-counts.ensures c.input_starts-starts.ensures (names-counted _ _ c.counts_of-counts.ensures)

pub returns : goal.returns
returns c =
    let same = text-as c.args.circuit.now (tables_of (goal.at.returns c).After-text_length-length) c.args.f _ _ (names-counted _ _ c.counts_of-counts.ensures) (to_z-of_z (fits-abs w64 _ c.requires.offset)) in
    let fits : length (the_text (goal.at.returns c).After-text_length-length) ≤ length c.args.buf.now =
    omega (arith, told (goal.at.returns c).After-text_length-length, c.if-buf-length.false) in
    let enough : c.text_length-length.result ≤ length c.args.buf.now = omega (arith, c.if-buf-length.false) in
    long-enough (the_text (goal.at.returns c).After-text_length-length) c.args.buf.now _ c.text_length-length.result (told (goal.at.returns c).After-text_length-length) enough (printed-whole (printed-as (sym same) c.print_model.ensures) fits)
