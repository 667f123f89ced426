use Rattle.std.proofs.Common.{◌≡◌, ◌≢◌, ◌∙◌, MatchBool, None, sym, ap, refl, subst, inl, inr}
use Rattle.lk_merge.specs.declared.merging.BucketState.{BucketState}
use Rattle.lk_merge.proofs.AllEnded.{ended_added}
use Rattle.lk_merge.proofs.ending.Ended.add.Goals as goal

pub returns-then-stopped : goal.returns-then-stopped
returns-then-stopped g c = λ h next.
    let refusal = c.args.bucket.state.refusal in
    let same : c.into_state-state.result.0.refusal ≡ refusal = ap (λ (s : BucketState). s.refusal) c.into_state-state.ensures.state in
    let stop : refusal ≢ None = subst (λ t. MatchBool t (refusal ≢ None) (refusal ≡ None)) c.if-stopped.true c.has_stopped-stopped.ensures in
    ended_added g.J.Brings.work c.args.self.now _ c.args.bucket.number c.into_state-state.result.0 c.into_state-state.result.1 h next c.into_state-state.ensures.places c.in_ok-push.ensures.items
    c.in_ok-push-2.ensures.items (inl (refl, λ none. stop (sym same ∙ none)))

pub returns-else-stopped : goal.returns-else-stopped
returns-else-stopped g c = λ h next.
    let refusal = c.args.bucket.state.refusal in
    let same : c.into_state-state.result.0.refusal ≡ refusal = ap (λ (s : BucketState). s.refusal) c.into_state-state.ensures.state in
    let go : refusal ≡ None = subst (λ t. MatchBool t (refusal ≢ None) (refusal ≡ None)) c.if-stopped.false c.has_stopped-stopped.ensures in
    ended_added g.J.Brings.work c.args.self.now _ c.args.bucket.number c.into_state-state.result.0 c.into_state-state.result.1 h next c.into_state-state.ensures.places c.in_ok-push.ensures.items
    c.in_ok-push-2.ensures.items (inr (refl, same ∙ go))
