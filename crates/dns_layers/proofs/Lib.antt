pub mod MandatoryLaws
pub mod EdnsLaws
pub mod CookieLaws
pub mod CookieReplies
