use Rattle.aidl_schema.proofs.lemmas.Valids.{all_hold, names_ascend, decls_apart, few_decls}
use Rattle.aidl_schema.proofs.lemmas.Counts.{depth_steady, nodes_steady}
use Rattle.aidl_schema.proofs.lemmas.Elements.{elem_is_type}
use Rattle.aidl_schema.proofs.laws.law_valid.Goals as goal

pub returns : goal.returns
returns c =
    let S = c.args.schema.now.decls in
    let valid = c.args.schema.now.valid in
    record {
      declarations = all_hold S valid;
      sorted = names_ascend S valid;
      apart = decls_apart S valid;
      few = few_decls S valid;
      elements = elem_is_type S;
      sizes = record { depth = depth_steady S; nodes = nodes_steady S };
    }
