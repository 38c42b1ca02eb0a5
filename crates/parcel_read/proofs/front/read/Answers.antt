use Rattle.std.proofs.Common.{false, subst, arith, length-drop}
use Rattle.std.proofs.lemmas.Result.{err_from_is_err_and}
use Rattle.aidl_base.proofs.lemmas.Lists.{AreBytes}
use Rattle.aidl_values.specs.View.{view}
use Rattle.parcel_words.specs.Taken.{RefusesIfMemory}
use Rattle.wire_model.specs.ReadOf.{read_of}
use Rattle.wire_model.specs.Reads.{Reads}
use Rattle.wire_model.specs.Stop.{Stop}
use Rattle.parcel_read.proofs.Laws.{law_reads, law_stops, law_typed, law_few}
use Rattle.parcel_read.proofs.Whole.{at_start, read_then, position_within, is_found, is_only, is_stop, is_memory}
use Rattle.parcel_read.proofs.front.read.Goals as goal

pub returns-in_err-value : goal.returns-in_err-value
returns-in_err-value c =
    let profile = c.args.profile in
    let b = c.args.bytes.now in
    let bytes : AreBytes b = λ i. omega (arith, c.type_inv.bytes i) in
    let p = c.new-from.result in
    let begins = c.new-from.ensures in
    let q = err_from_is_err_and c.from_residual.result c.from_residual.ensures.1 in
    let e = c.in_err-value.field-0.0 in
    let refused = c.in_err-value.ensures.taken in
    rw (q.1, q.2) (record {
      within = tt;
      exact = λ S t is. subst (RefusesIfMemory e) (at_start profile b p begins (λ q i x. read_of q S 64 t false x)) (refused S t is);
      found = λ S t is. tt;
      typed = λ S t is. tt;
      nodes = λ S t is. tt;
      only = λ S t is v n le reads.
          let failed = subst (RefusesIfMemory e) (at_start profile b p begins (λ q i x. read_of q S 64 t false x)) (refused S t is) in
          let known = is.2.of_schema c.args.id.0 t is.3 in
          is_memory b (read_of profile S 64 t false b) (λ c v. Reads profile S 64 t c v) (λ s. Stop profile S 64 t b false s)
          (law_reads profile S is.2.schema t known 64 b bytes false) (law_stops profile S is.2.schema t known 64 b bytes false) e failed v n reads;
      stopped = λ S t is.
          let failed = subst (RefusesIfMemory e) (at_start profile b p begins (λ q i x. read_of q S 64 t false x)) (refused S t is) in
          let known = is.2.of_schema c.args.id.0 t is.3 in
          is_stop b (read_of profile S 64 t false b) (λ c v. Reads profile S 64 t c v) (λ s. Stop profile S 64 t b false s)
          (law_reads profile S is.2.schema t known 64 b bytes false) (law_stops profile S is.2.schema t known 64 b bytes false) e failed;
    })

pub returns : goal.returns
returns c =
    let profile = c.args.profile in
    let b = c.args.bytes.now in
    let bytes : AreBytes b = λ i. omega (arith, c.type_inv.bytes i) in
    let p = c.new-from.result in
    let begins = c.new-from.ensures in
    let r = c.read_from.new.from in
    let on = c.in_ok-value.ensures.on in
    let v = view c.in_ok-value.value in
    let n = c.position.result in
    let at = c.position.ensures.value in
    let within = position_within profile b p begins r on n at in
    let taken = c.in_ok-value.ensures.taken in
    record {
      within = within;
      exact = λ S t is. read_then profile b p begins r on n at (λ q i x. read_of q S 64 t false x) v (taken S t is);
      found = λ S t is.
          let whole = read_then profile b p begins r on n at (λ q i x. read_of q S 64 t false x) v (taken S t is) in
          let known = is.2.of_schema c.args.id.0 t is.3 in
          is_found b (read_of profile S 64 t false b) (λ c v. Reads profile S 64 t c v) (λ s. Stop profile S 64 t b false s)
          (law_reads profile S is.2.schema t known 64 b bytes false) (law_stops profile S is.2.schema t known 64 b bytes false) v n within whole;
      typed = λ S t is.
          let whole = read_then profile b p begins r on n at (λ q i x. read_of q S 64 t false x) v (taken S t is) in
          law_typed profile S is.2.schema t (is.2.of_schema c.args.id.0 t is.3) 64 b bytes false v _ whole;
      nodes = λ S t is.
          let whole = read_then profile b p begins r on n at (λ q i x. read_of q S 64 t false x) v (taken S t is) in
          let few = law_few profile S is.2.schema t (is.2.of_schema c.args.id.0 t is.3) 64 b bytes false v _ whole in
          omega (arith, few, length-drop n b);
      only = λ S t is.
          let whole = read_then profile b p begins r on n at (λ q i x. read_of q S 64 t false x) v (taken S t is) in
          let known = is.2.of_schema c.args.id.0 t is.3 in
          is_only b (read_of profile S 64 t false b) (λ c v. Reads profile S 64 t c v) (λ s. Stop profile S 64 t b false s)
          (law_reads profile S is.2.schema t known 64 b bytes false) (law_stops profile S is.2.schema t known 64 b bytes false) v n within whole;
      stopped = λ S t is. tt;
    }
