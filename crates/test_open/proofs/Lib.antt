mod EndTags
mod UnderWay
