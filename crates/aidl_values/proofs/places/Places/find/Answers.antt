use Rattle.std.proofs.Common.{◌≡◌, Err, Ok, sym, ◌∙◌, ap, subst, arith}
use Rattle.std.proofs.lemmas.List.Sorted.{searched}
use Rattle.aidl_values.specs.Given.{IsRising, given_at}
use Rattle.aidl_values.proofs.Rising.{apart, in_order, given_there, given_nowhere}
use Rattle.aidl_values.proofs.places.Places.find.Goals as goal

pub returns-in_default : goal.returns-in_default
returns-in_default c = λ vs other. ap (λ ps. given_at ps vs c.args.place other) (sym c.self.view_is)
    ∙ given_nowhere c.self.inside.row.items vs c.args.place other (λ i lt is.
    let fits = c.self.invariant.1 i 0 lt in
    c.in_default.ensures (omega (arith, fits, is)))

pub returns-in-Ok-binary_search : goal.returns-in-Ok-binary_search
returns-in-Ok-binary_search c = λ vs other.
    let xs = c.as_slice-row.result.now in
    let k = c.in-Ok-binary_search.k in
    let same : c.args.self.now ≡ xs = sym c.self.view_is ∙ sym c.as_slice-row.ensures.value in
    let rising : IsRising xs = subst IsRising (sym c.as_slice-row.ensures.value) c.self.invariant.0 in
    let s = searched xs c.in-Ok.narrow (Ok k) c.in-Ok-binary_search.ensures.position (in_order xs rising) in
    ap (λ ps. given_at ps vs c.args.place other) same ∙ given_there xs vs k c.args.place other rising s.0 (s.1 ∙ c.in-Ok.ensures.1)

pub returns-in-Err : goal.returns-in-Err
returns-in-Err c = λ vs other.
    let xs = c.as_slice-row.result.now in
    let same : c.args.self.now ≡ xs = sym c.self.view_is ∙ sym c.as_slice-row.ensures.value in
    let rising : IsRising xs = subst IsRising (sym c.as_slice-row.ensures.value) c.self.invariant.0 in
    let s = searched xs c.in-Ok.narrow (Err c.in-Err.field-0) c.in-Err.ensures.position (in_order xs rising) in
    ap (λ ps. given_at ps vs c.args.place other) same
    ∙ given_nowhere xs vs c.args.place other (λ i lt is. apart xs c.in-Ok.narrow c.in-Err.field-0 s.1 s.2 i lt (is ∙ sym c.in-Ok.ensures.1))
