use Rattle.aidl_schema.proofs.lemmas.BrokenChain.{chain}
use Rattle.aidl_schema.proofs.lemmas.BrokenSelf.{broken_self, distinct_names}
use Rattle.aidl_schema.proofs.lemmas.Valids.{all_hold, decls_apart}
use Rattle.aidl_schema.proofs.laws.law_chain.Goals as goal

pub returns : goal.returns
returns c =
    let A = c.args.a.now in
    let B = c.args.b.now in
    let C = c.args.c.now in
    record {
      itself = broken_self A.decls (all_hold A.decls A.valid) (distinct_names A.decls (decls_apart A.decls A.valid));
      along = λ p q. chain A.decls B.decls C.decls (all_hold B.decls B.valid) (distinct_names C.decls (decls_apart C.decls C.valid)) p q;
    }
