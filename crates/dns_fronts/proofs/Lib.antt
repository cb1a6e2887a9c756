mod LayerDecisions
mod LayersOverCache
mod LoneQuestions
mod ServerReplyLaws
