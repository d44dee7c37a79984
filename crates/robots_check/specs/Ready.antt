-- What makes a judge ready.
-- Used by `Judge`.
use Rattle.std.specs.Prelude.{◌≡◌, IfSome, map}
use Rattle.robots_text.specs.Records.{numbered_records}
use Rattle.robots_check.specs.AgentText.{AreHeadsAt, head_seen}
use Rattle.robots_check.specs.Forms.{AreFormsFor}
use Rattle.robots_check.specs.declared.judge.Judge.{Judge}

-- it has the text's rule lines for its token with their patterns, and perhaps the text's policy; to explain, also the
-- user-agent lines of the token's groups
pub record IsReady (judge : Judge) : Type 0 where
  pub policy : IfSome judge.policy (λ policy. policy.now ≡ judge.text.now)
  pub rules : AreFormsFor (numbered_records judge.text.now) judge.token.now judge.rules.now
  pub heads : AreHeadsAt judge.detail (numbered_records judge.text.now) judge.token.now
      (map head_seen judge.agents.now)
