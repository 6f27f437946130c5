use Rattle.ss_core.proofs.Refusing.{refused_as}
use Rattle.ss_core.proofs.transition.lead.Goals as goal

pub returns-in-Take-clause-refused : goal.returns-in-Take-clause-refused
returns-in-Take-clause-refused c = refused_as _ _ _ _ c.in-Take.is c.take.ensures.refused

pub returns-in-Commit-clause-refused : goal.returns-in-Commit-clause-refused
returns-in-Commit-clause-refused c = refused_as _ _ _ _ c.in-Commit.is c.commit.ensures.refused

pub returns-in-Put-clause-refused : goal.returns-in-Put-clause-refused
returns-in-Put-clause-refused c = refused_as _ _ _ _ c.in-Put.is c.put.ensures.refused

pub returns-in-WriteBody-clause-refused : goal.returns-in-WriteBody-clause-refused
returns-in-WriteBody-clause-refused c = refused_as _ _ _ _ c.in-WriteBody.is c.write_body.ensures.refused

pub returns-in-SyncBody-clause-refused : goal.returns-in-SyncBody-clause-refused
returns-in-SyncBody-clause-refused c = refused_as _ _ _ _ c.in-SyncBody.is c.sync_body.ensures.refused

pub returns-in-OpenGate-clause-refused : goal.returns-in-OpenGate-clause-refused
returns-in-OpenGate-clause-refused c = refused_as _ _ _ _ c.in-OpenGate.is c.open_gate.ensures.refused

pub returns-in-SyncGate-clause-refused : goal.returns-in-SyncGate-clause-refused
returns-in-SyncGate-clause-refused c = refused_as _ _ _ _ c.in-SyncGate.is c.sync_gate.ensures.refused

pub returns-in-Receive-clause-refused : goal.returns-in-Receive-clause-refused
returns-in-Receive-clause-refused c = refused_as _ _ _ _ c.in-Receive.is c.receive.ensures.refused

pub returns-in-CutOther-clause-refused : goal.returns-in-CutOther-clause-refused
returns-in-CutOther-clause-refused c = refused_as _ _ _ _ c.in-CutOther.is c.cut_other.ensures.refused

pub returns-in-WriteGeneration-clause-refused : goal.returns-in-WriteGeneration-clause-refused
returns-in-WriteGeneration-clause-refused c = refused_as _ _ _ _ c.in-WriteGeneration.is c.write_generation.ensures.refused

pub returns-in-SyncGeneration-clause-refused : goal.returns-in-SyncGeneration-clause-refused
returns-in-SyncGeneration-clause-refused c = refused_as _ _ _ _ c.in-SyncGeneration.is c.sync_generation.ensures.refused

pub returns-in-Select-clause-refused : goal.returns-in-Select-clause-refused
returns-in-Select-clause-refused c = refused_as _ _ _ _ c.in-Select.is c.select.ensures.refused

pub returns-in-SyncSelect-clause-refused : goal.returns-in-SyncSelect-clause-refused
returns-in-SyncSelect-clause-refused c = refused_as _ _ _ _ c.in-SyncSelect.is c.sync_select.ensures.refused

pub returns-in-Fail-clause-refused : goal.returns-in-Fail-clause-refused
returns-in-Fail-clause-refused c = refused_as _ _ _ _ c.in-Fail.is c.fail.ensures.refused
