use Rattle.aidl_tool.proofs.ones.Acting.{one_dump, one_freeze, one_rehash}
use Rattle.aidl_tool.proofs.laws.law_one_act.Goals as goal

pub returns-clause-dump : goal.returns-clause-dump
returns-clause-dump c = one_dump

pub returns-clause-freeze : goal.returns-clause-freeze
returns-clause-freeze c = one_freeze

pub returns-clause-rehash : goal.returns-clause-rehash
returns-clause-rehash c = one_rehash
